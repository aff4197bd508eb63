-- The words of a whole described step, turn by turn: where it stands along the branch bits that it was given so far.
use Rattle.std.specs.Prelude.{◌≡◌, ℕ, List, [], ◌∷◌, ◌++◌, Bool, None}
use Rattle.mw_macro.specs.Machine.{Description}
use Rattle.mw_macro.specs.Statements.{nothing}
use Rattle.mw_macro.specs.StepWords.{Come, going, stopped, acts_words, begun_words, step_words}
use Rattle.mw_term.specs.Table.{Table}
use Rattle.mw_term.specs.declared.word.Word.{Word}
use Rattle.mw_symmem.specs.declared.turn.Turn.{Turn}
use Rattle.mw_symmem.specs.declared.turn.Turn.TheVariants.{Ask, Finished}
use Rattle.mw_symmem.specs.Listed.{list_in}
use Rattle.mw_symmem.specs.Memory.{Memory}
use Rattle.mw_symmach.specs.Turns.{Stepping, given_so, left_in}
use Rattle.mw_symmach.specs.Walks.{Walks, asked_by, chosen, underway_in, underway_of}

-- what the table says of a step along its branch bits, where it begins with a list and a memory
abbrev pub said_of : Description → (registers : List ℕ) → (request : ℕ) → Table → List Word → Memory → List Bool → Come
said_of d registers request t words m bits = step_words d registers request m.machine bits (list_in t words m)

-- Along these bits a step has come to where it stands: what is said along all further ones are the words of the acts
-- that are left, from what there is.
abbrev pub IsAlong : (said : List Bool → Come)
    → Description → (bits : List Bool) → Table → List Word → Memory → Stepping → Type 0
IsAlong said d bits t words m o =
    (further : List Bool)
    → said (bits ++ further) ≡ acts_words d.shape (left_in d o) further (underway_of d t words m o)

-- Along these bits it asks for the next one: what is said stops at the term asked for, with what there is; and with
-- either bit it goes on in the list that this chooses.
pub record AsksAlong (said : List Bool → Come) (d : Description) (bits : List Bool) (t : Table) (words : List Word)
    (m : Memory) (o : Stepping) (term : ℕ) : Type 0 where
  pub begun : o.request ≡ None
  pub stops : said bits ≡ stopped term (underway_in t words m o.parts)
  pub goes : (bit : Bool) (further : List Bool)
      → said (bits ++ bit ∷ further)
      ≡ acts_words d.shape (chosen bit (left_in d o)) further (underway_in t words m o.parts)

-- Along these bits it is done: what is said is what there is, namely its list, its terms, its writes and its events.
abbrev pub IsDoneAlong : (said : List Bool → Come) → (bits : List Bool) → Table → List Word → Memory → Stepping → Type 0
IsDoneAlong said bits t words m o = said bits ≡ going [] (underway_in t words m o.parts)

-- what a turn says along these bits
abbrev pub TurnsAlong : (said : List Bool → Come)
    → Description → (bits : List Bool) → Table → List Word → Memory → Stepping → Turn → Type 0
TurnsAlong said d bits t words m o (Ask kind term) = AsksAlong said d bits t words m o term
TurnsAlong said d bits t words m o Finished = IsDoneAlong said bits t words m o

-- A step that has all acts left, from what there is at its start, is along no bits.
abbrev pub StepsBeginAlong : Type 0
StepsBeginAlong = (d : Description) (registers : List ℕ) (request : ℕ) (t : Table) (words : List Word) (m : Memory)
    (o : Stepping) → left_in d o ≡ d.acts
    → underway_of d t words m o ≡ begun_words d registers request m.machine (list_in t words m)
    → IsAlong (said_of d registers request t words m) d [] t words m o

-- A turn that adds the words of the acts that it does, and leaves none where it says that it is done, stops where the
-- table says that it asks for the next bit, or is done along its bits.
abbrev pub TurnsGoAlong : Type 0
TurnsGoAlong =
    (said : List Bool → Come) (d : Description) (bits : List Bool) (told tnew : Table) (wold wnew : List Word)
    (mold mnew : Memory) (old new : Stepping) (turn : Turn)
    → IsAlong said d bits told wold mold old
    → Walks d.shape (underway_of d told wold mold old) (underway_in tnew wnew mnew new.parts) (left_in d old)
    (left_in d new) (asked_by turn)
    → (turn ≡ Finished → left_in d new ≡ nothing) → new.request ≡ None
    → TurnsAlong said d bits tnew wnew mnew new turn

-- A bit that is given goes on in the list that it chooses: the step is along it too.
abbrev pub BitsGoAlong : Type 0
BitsGoAlong =
    (said : List Bool → Come) (d : Description) (bits : List Bool) (t : Table) (words : List Word) (m : Memory)
    (old new : Stepping) (term : ℕ) (value : Bool) → AsksAlong said d bits t words m old term
    → new ≡ given_so old value → left_in d new ≡ chosen value (left_in d old)
    → IsAlong said d (bits ++ value ∷ []) t words m new
