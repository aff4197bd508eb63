-- The words that a described step adds on terms are those of the word table.
use Rattle.std.specs.Prelude.{◌≡◌, ℕ, List, [], ◌∷◌, Bool, Option, Some, None}
use Rattle.mw_expr.specs.declared.shape.Shape.{Shape}
use Rattle.mw_macro.specs.Machine.{Description}
use Rattle.mw_macro.specs.Statements.{Act, Acts, nothing, next}
use Rattle.mw_macro.specs.StepWords.{Underway, underway, going, stopped, act_words, acts_words, begun_words}
use Rattle.mw_term.specs.declared.word.Word.{Word}
use Rattle.mw_term.specs.Table.{Table}
use Rattle.mw_symmem.specs.declared.turn.Turn.{Turn}
use Rattle.mw_symmem.specs.declared.turn.Turn.TheVariants.{Ask, Finished}
use Rattle.mw_symmem.specs.Listed.{list_in}
use Rattle.mw_symmem.specs.Memory.{Memory}
use Rattle.mw_symmach.specs.Places.{list_of, then_acts}
use Rattle.mw_symmach.specs.Steps.{Parts}
use Rattle.mw_symmach.specs.Turns.{Stepping}

-- what there is between two statements: the list, the terms of the elements, the machine's writes, and the events
abbrev pub underway_in : Table → List Word → Memory → Parts → Underway
underway_in t words m p = underway (list_in t words m) p.values m.machine p.events p.taken

-- the same of a step; before the temporaries have their terms these are constants to come
abbrev pub underway_by : Description → Table → List Word → Memory → Parts → (request : Option ℕ) → Underway
underway_by d t words m p None = underway_in t words m p
underway_by d t words m p (Some request) = begun_words d p.values request m.machine (list_in t words m)

-- what there is of a step
abbrev pub underway_of : Description → Table → List Word → Memory → Stepping → Underway
underway_of d t words m o = underway_by d t words m o.parts o.request

-- An act was done on terms, or asks for the bit of its condition: what was added are its words, along all bits.
abbrev pub ActWalks : Shape → (old new : Underway) → Act → (asked : Option ℕ) → Type 0
ActWalks s old new act None = (bits : List Bool) → act_words s act bits old ≡ going bits new
ActWalks s old new act (Some term) =
    (act_words s act [] old ≡ stopped term new)
    × ((bit : Bool) (bits : List Bool) → act_words s act (bit ∷ bits) old ≡ acts_words s (list_of bit act) bits new)

-- the list of the `if` with which acts begin that a bit chooses, and what is behind that `if`
abbrev pub chosen : (bit : Bool) → Acts → Acts
chosen bit nothing = nothing
chosen bit (next act rest) = then_acts (list_of bit act) rest

-- Some acts were done, up to others that are left: the words along all bits are those of what is left. Where the next
-- is an `if` that asks for its bit, its condition's words are there, and each bit goes on in its list.
abbrev pub Walks : Shape → (old new : Underway) → (lold lnew : Acts) → (asked : Option ℕ) → Type 0
Walks s old new lold lnew None = (bits : List Bool) → acts_words s lold bits old ≡ acts_words s lnew bits new
Walks s old new lold lnew (Some term) =
    (acts_words s lold [] old ≡ stopped term new)
    × ((bit : Bool) (bits : List Bool) → acts_words s lold (bit ∷ bits) old ≡ acts_words s (chosen bit lnew) bits new)

-- the term that a turn asks for
abbrev pub asked_by : Turn → Option ℕ
asked_by (Ask kind term) = Some term
asked_by Finished = None
