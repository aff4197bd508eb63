-- The described step of a run in the word list of its case.
use Rattle.std.proofs.Common.{◌≡◌, ℕ, List, [], ◌∷◌, ◌++◌, ap, sym, ◌∙◌, refl}
use Rattle.std.specs.Prelude.{Bool, false, Option, Some, None, map}
use Rattle.std.specs.Option.{unwrap_or}
use Rattle.std.proofs.lemmas.List.{map-append}
use Rattle.mw_cycle.specs.BoardTerms.{Standing}
use Rattle.mw_term.specs.declared.decided.Decided.{Decided}
use Rattle.mw_cycle.specs.Decided.{decided}
use Rattle.mw_macro.specs.Machine.{Description}
use Rattle.mw_macro.specs.Statements.{Acts}
use Rattle.mw_macro.specs.StepWords.{Come, Underway, acts_words, begun_words, step_words}
use Rattle.mw_term.specs.declared.decided.DecidedKind.TheVariants.{Branch}
use Rattle.mw_term.specs.declared.kinds.WordKind.TheVariants.{Line}
use Rattle.mw_term.specs.declared.word.Word.{Word}
use Rattle.mw_term.specs.MemoryRead.{Held}
use Rattle.mw_term.specs.Table.{Table}
use Rattle.mw_term.specs.WordList.{term_of}
use Rattle.mw_symboard.specs.Turns.{Symbolic}
use Rattle.mw_symmem.specs.declared.turn.Turn.{Turn}
use Rattle.mw_symmem.specs.declared.turn.Turn.TheVariants.{Ask, Finished}
use Rattle.mw_symmem.specs.Listed.{list_in}
use Rattle.mw_symmem.specs.Memory.{Memory}
use Rattle.mw_symmach.specs.Along.{AsksAlong, IsAlong, IsDoneAlong}
use Rattle.mw_symmach.specs.Turns.{IsSaid, Stepping, is_asked, left_in}
use Rattle.mw_symmach.specs.Walks.{Walks, asked_by, underway_by, underway_in, underway_of}
use Rattle.mw_rel.specs.CaseWords.{CaseWords, behind_step, bit_values, case_words, whole, with_comparisons, words_along}
use Rattle.mw_rel.specs.Job.{Job}
use Rattle.mw_space.specs.declared.space.Space.{Space}
use Rattle.mw_course.specs.Listed.{AsksFor, ComesTo, left_behind_segment, left_of_step, list_of_space, standing_on}
use Rattle.mw_course.specs.Starts.{Ground}
use Rattle.mw_course.specs.Steps.{said_from}

-- ---- decided bits

-- the values of branch bits
branch_values : (bits : List Bool) → bit_values (map (decided Branch) bits) ≡ bits
branch_values [] = refl
branch_values (bit ∷ bits) = ap (λ rest. bit ∷ rest) (branch_values bits)

-- the values of decided bits with branch bits behind them
values_behind : (segment : List Decided) (bits : List Bool)
    → bit_values (segment ++ map (decided Branch) bits) ≡ bit_values segment ++ bits
values_behind segment bits =
    map-append (λ (bit : Decided). bit.value) segment (map (decided Branch) bits)
    ∙ ap (λ behind. bit_values segment ++ behind) (branch_values bits)

-- behind a step, or at the bit that it wants
abbrev behind_come : Job → Standing → Come → CaseWords
behind_come job standing come = behind_step job standing come.asked come.to

-- ---- where it begins

-- What is left of the step where the segment has ended is that step from its first statement, where the request is the
-- line of the first cycle and nothing was written on its side.
pub left_at_start : (job : Job) (number : ℕ) (bits : List Decided) (space : Space)
    (registers : List ℕ) (board : Symbolic)
    (request : ℕ) (begun : Underway) → ComesTo job number bits (left_of_step job space registers board)
    → space.memory.machine ≡ [] → term_of space.words (Line 0) ≡ Some request
    → begun ≡ begun_words job.machine registers request space.memory.machine (list_of_space space)
    → ComesTo job number bits (left_behind_segment job (standing_on space board) begun)
unfolding step_words
left_at_start job number bits space registers board request begun listed unwritten line is further =
    let d = job.machine in
    let list = list_of_space space in
    let standing = standing_on space board in
    listed further
    ∙ ap (λ (o : Option ℕ). behind_come job standing (step_words d registers (unwrap_or o 0) [] further list)) line
    ∙ ap (λ (writes : List Held). behind_come job standing (step_words d registers request writes further list))
    (sym unwritten)
    ∙ ap (λ (u : Underway). behind_come job standing (said_from d u further)) (sym is)

-- ---- what a step asks for

-- Where the step that is left behind a segment asks for a bit along those that were given, the word list asks for it.
pub asks_for : (job : Job) (number : ℕ) (g : Ground) (segment all : List Decided) (bits : List Bool)
    (standing : Standing)
    (begun : Underway) (o : Stepping) (term : ℕ) → all ≡ segment ++ map (decided Branch) bits
    → ComesTo job number segment (left_behind_segment job standing begun)
    → AsksAlong (said_from job.machine begun) job.machine bits g.table g.words g.memory o term
    → AsksFor job number all g term
asks_for job number g segment all bits standing begun o term met listed asks =
    ap (λ values. words_along job number values) (ap bit_values met ∙ values_behind segment bits)
    ∙ listed bits ∙ ap (behind_come job standing) asks.stops

-- where it is done along the bits of a case, the list is whole but for the words of the comparison
pub ends_listed : (job : Job) (number : ℕ) (segment all : List Decided) (bits : List Bool) (standing : Standing)
    (begun : Underway) (t : Table) (words : List Word) (m : Memory) (o : Stepping)
    → all ≡ segment ++ map (decided Branch) bits
    → ComesTo job number segment (left_behind_segment job standing begun)
    → IsDoneAlong (said_from job.machine begun) bits t words m o
    → case_words job number all
    ≡ whole (list_in t words m) (with_comparisons job standing (underway_in t words m o.parts))
ends_listed job number segment all bits standing begun t words m o met listed done =
    ap (λ values. words_along job number values) (ap bit_values met ∙ values_behind segment bits)
    ∙ listed bits ∙ ap (behind_come job standing) done

-- ---- along its bits

-- a step that has all acts left is along no bits
pub along_none : (d : Description) (t : Table) (words : List Word) (m : Memory) (o : Stepping) → left_in d o ≡ d.acts
    → IsAlong (said_from d (underway_of d t words m o)) d [] t words m o
along_none d t words m o left further =
    ap (λ (acts : Acts). acts_words d.shape acts further (underway_of d t words m o)) (sym left)

-- a turn that is the last leaves a step along the same bits
along_last : (said : List Bool → Come) (d : Description) (bits : List Bool) (told tnew : Table) (wold wnew : List Word)
    (mold mnew : Memory) (old new : Stepping) → IsAlong said d bits told wold mold old
    → Walks d.shape (underway_of d told wold mold old) (underway_in tnew wnew mnew new.parts)
    (left_in d old) (left_in d new)
    None → new.request ≡ None → IsAlong said d bits tnew wnew mnew new
along_last said d bits told tnew wold wnew mold mnew old new along walks begun further =
    along further ∙ walks further
    ∙ ap (λ (request : Option ℕ).
    acts_words d.shape (left_in d new) further (underway_by d tnew wnew mnew new.parts request))
    (sym begun)

-- so does each turn behind which it waits for no bit
pub along_turn : (said : List Bool → Come) (d : Description) (bits : List Bool) (told tnew : Table)
    (wold wnew : List Word)
    (mold mnew : Memory) (old new : Stepping) (turn : Turn) → IsSaid d tnew wnew mnew new turn
    → IsAlong said d bits told wold mold old
    → Walks d.shape (underway_of d told wold mold old) (underway_in tnew wnew mnew new.parts)
    (left_in d old) (left_in d new)
    (asked_by turn) → new.request ≡ None → is_asked new.pending ≡ false → IsAlong said d bits tnew wnew mnew new
along_turn said d bits told tnew wold wnew mold mnew old new (Ask kind term) asks along walks begun idle =
    let waits = asks.asked in absurd cc
along_turn said d bits told tnew wold wnew mold mnew old new Finished done along walks begun idle =
    along_last said d bits told tnew wold wnew mold mnew old new along walks begun
