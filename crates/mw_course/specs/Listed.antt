-- Where a run stands in the word list of its case.
use Rattle.std.specs.Prelude.{◌≡◌, ℕ, ◌+◌, ◌-◌, ◌++◌, List, Bool, if◌then◌else◌}
use Rattle.mw_symmem.specs.Memory.{writes_of}
use Rattle.mw_term.specs.declared.decided.Decided.{Decided}
use Rattle.mw_cycle.specs.Boundary.{is_named}
use Rattle.mw_macro.specs.StepWords.{Underway}
use Rattle.mw_symboard.specs.Along.{standing_in, words_left}
use Rattle.mw_symboard.specs.Turns.{Symbolic}
use Rattle.mw_symmem.specs.Listed.{list_in}
use Rattle.mw_cycle.specs.BoardTerms.{Standing}
use Rattle.mw_rel.specs.CaseWords.{CaseWords, along_cycles, along_step, behind_cycle, behind_step, bit_values}
use Rattle.mw_rel.specs.CaseWords.{case_words, stopped, words_along}
use Rattle.mw_rel.specs.Free.{numbered}
use Rattle.mw_rel.specs.Job.{Job}
use Rattle.mw_rel.specs.Start.{addresses_of}
use Rattle.mw_term.specs.WordList.{AllEnded, WordList}
use Rattle.mw_space.specs.declared.space.Space.{Space}
pub use Rattle.mw_segment.specs.Left.{standing_on}
pub use Rattle.mw_space.specs.Spaces.{list_of_space}
use Rattle.mw_course.specs.Starts.{Ground}
use Rattle.mw_course.specs.Steps.{said_from}

-- The word list of decided bits is what there is, and asks for the next one by this term.
abbrev pub AsksFor : Job → (number : ℕ) → (bits : List Decided) → Ground → (term : ℕ) → Type 0
AsksFor job number bits g term = case_words job number bits ≡ stopped term (list_in g.table g.words g.memory)

-- The word list along decided bits and all further ones is what is left.
abbrev pub ComesTo : Job → (number : ℕ) → (bits : List Decided) → (left : List Bool → CaseWords) → Type 0
ComesTo job number bits left =
    (further : List Bool) → words_along job number (bit_values bits ++ further) ≡ left further

-- that list, and terms of it at which several things end
abbrev pub all_ended : (terms : List ℕ) → WordList → AllEnded
all_ended terms l = record { list = l; terms = terms }

-- what is left where the board has begun no cycle, and may make so many
abbrev pub left_of_cycles : Job → Space → (registers : List ℕ) → Symbolic → (count : ℕ) → List Bool → CaseWords
left_of_cycles job space registers o count bits =
    along_cycles job registers count (standing_on space o) bits (list_of_space space)

-- what is left where it is in a cycle
abbrev pub left_in_cycle : Job → (number : ℕ) → Space → (registers : List ℕ) → Symbolic → List Bool → CaseWords
left_in_cycle job number space registers o bits =
    let come =
    words_left job.board job.store o (writes_of space.memory o.place.side) bits (list_of_space space) in
    behind_cycle job registers come.asked come
    (along_cycles job registers ((numbered job number).bound - (o.place.cycle + 1)))

-- what is left of the described step, where the segment has ended
abbrev pub left_of_step : Job → Space → (registers : List ℕ) → Symbolic → List Bool → CaseWords
left_of_step job space registers o bits = along_step job registers (standing_on space o) bits (list_of_space space)

-- what is left where a cycle is finished
abbrev pub left_behind_cycle : Job → (number : ℕ) → Space → (registers : List ℕ) → Symbolic → List Bool → CaseWords
left_behind_cycle job number space registers o bits =
    if is_named (addresses_of job) o.place.at then left_of_step job space registers o bits
    else left_of_cycles job space registers o ((numbered job number).bound - o.place.cycle) bits

-- what is left where the step began from here, and has met no bit
abbrev pub left_behind_segment : Job → Standing → (from : Underway) → List Bool → CaseWords
left_behind_segment job standing from bits =
    let come = said_from job.machine from bits in
    behind_step job standing come.asked come.to
