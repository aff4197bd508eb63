-- Each term of a case's list, and of the list up to each of its comparisons, that is no constant has a word.
use Rattle.std.proofs.Common.{ℕ, zero, suc, List, []}
use Rattle.std.specs.Prelude.{Bool, true, false, if◌then◌else◌, Option, Some, None}
use Rattle.std.specs.Option.{unwrap_or}
use Rattle.mw_cycle.specs.BoardTerms.{Standing}
use Rattle.mw_cycle.specs.Boundary.{is_named}
use Rattle.mw_cycle.specs.CycleWords as cycles
use Rattle.mw_cycle.specs.CycleWords.{cycle_words}
use Rattle.mw_macro.specs.Laws.{StepsAreNumbered}
use Rattle.mw_macro.specs.StepWords.{Underway, step_words}
use Rattle.mw_symboard.specs.Along.{CyclesAreNumbered}
use Rattle.mw_term.specs.declared.kinds.WordKind.TheVariants.{Line}
use Rattle.mw_term.specs.Numbered.{IsNumbered}
use Rattle.mw_term.specs.WordList.{WordList, term_of}
use Rattle.mw_rel.specs.CaseWords.{CaseWords, along_cycles, along_step, behind_cycle, behind_step, registers_in}
use Rattle.mw_rel.specs.CaseWords.{sides_of, standing_at, with_comparisons, words_along}
use Rattle.mw_rel.specs.Certified.{boundary_at}
use Rattle.mw_rel.specs.ComparisonWords.{Compared, ComparisonsAreNumbered, all_compared, compared_in, comparison_words}
use Rattle.mw_rel.specs.ComparisonWords.{is_unlike}
use Rattle.mw_rel.specs.Free.{no_boundary, numbered}
use Rattle.mw_rel.specs.Job.{Job}
use Rattle.mw_rel.specs.Start.{addresses_of}
use Rattle.mw_rel.specs.StartWords.{StartsAreNumbered, start_words}
use Rattle.mw_compare.proofs.EachCompared.{AreCompared, AreComparedIn, none_compared}
use Rattle.mw_fork.proofs.EachCompared.{all_are_compared}

-- the laws of numbers: of starts, of cycles, of described steps and of comparisons
pub record AreNumbered : Type 0 where
  pub starts : StartsAreNumbered
  pub cycles : CyclesAreNumbered
  pub steps : StepsAreNumbered
  pub comparisons : ComparisonsAreNumbered

-- the list of a case is numbered, and so is that of each comparison
abbrev pub IsNumberedCase : CaseWords → Type 0
IsNumberedCase w = AreComparedIn w.list w.comparisons

-- what is compared, or nothing
compared_or_not : (unlike : Bool) (all : Compared) (l : WordList) → IsNumbered l → AreCompared all
    → AreCompared (unwrap_or (if unlike then None else Some all) (compared_in l []))
compared_or_not true all l has are = none_compared l has
compared_or_not false all l has are = are

numbered_comparisons : (job : Job) (s : Standing) (u : Underway) → IsNumbered u.list
    → AreCompared (with_comparisons job s u)
unfolding comparison_words
numbered_comparisons job s u has =
    let shape = job.relation.shape in
    let boundary = unwrap_or (boundary_at job s.at) no_boundary in
    let sides = sides_of job s u in
    compared_or_not (is_unlike boundary sides) (all_compared shape boundary sides u.list) u.list has
    (all_are_compared shape boundary sides u.list has)

numbered_behind_step : (job : Job) (s : Standing) (asked : Option ℕ) (u : Underway) → IsNumbered u.list
    → IsNumberedCase (behind_step job s asked u)
numbered_behind_step job s (Some term) u has = none_compared u.list has
numbered_behind_step job s None u has = numbered_comparisons job s u has

numbered_along_step : AreNumbered → (job : Job) (registers : List ℕ) (s : Standing) (bits : List Bool) (l : WordList)
    → IsNumbered l → IsNumberedCase (along_step job registers s bits l)
numbered_along_step laws job registers s bits l has =
    let request = unwrap_or (term_of l.words (Line 0)) 0 in
    let come = step_words job.machine registers request [] bits l in
    numbered_behind_step job s come.asked come.to (laws.steps job.machine registers request [] bits l has)

-- what is so of each list along further cycles
abbrev StaysNumbered : (further : Standing → List Bool → WordList → CaseWords) → Type 0
StaysNumbered further =
    (s : Standing) (bits : List Bool) (l : WordList) → IsNumbered l → IsNumberedCase (further s bits l)

numbered_step_or_more : AreNumbered → (job : Job) (registers : List ℕ) (named : Bool) (come : cycles.Come)
    (further : Standing → List Bool → WordList → CaseWords) → IsNumbered come.list → StaysNumbered further
    → IsNumberedCase (if named then along_step job registers come.to come.bits come.list
    else further come.to come.bits come.list)
numbered_step_or_more laws job registers true come further has each =
    numbered_along_step laws job registers come.to come.bits come.list has
numbered_step_or_more laws job registers false come further has each = each come.to come.bits come.list has

numbered_behind_cycle : AreNumbered → (job : Job) (registers : List ℕ) (asked : Option ℕ) (come : cycles.Come)
    (further : Standing → List Bool → WordList → CaseWords) → IsNumbered come.list → StaysNumbered further
    → IsNumberedCase (behind_cycle job registers asked come further)
numbered_behind_cycle laws job registers (Some term) come further has each = none_compared come.list has
numbered_behind_cycle laws job registers None come further has each =
    numbered_step_or_more laws job registers (is_named (addresses_of job) come.to.at) come further has each

numbered_along : AreNumbered → (job : Job) (registers : List ℕ) (count : ℕ)
    → StaysNumbered (along_cycles job registers count)
numbered_along laws job registers zero s bits l has = none_compared l has
numbered_along laws job registers (suc count) s bits l has =
    let come = cycle_words job.board job.store s bits l in
    numbered_behind_cycle laws job registers come.asked come (along_cycles job registers count)
    (laws.cycles job.board job.store s bits l has) (numbered_along laws job registers count)

-- the list of a case, and those of its comparisons
pub numbered_whole : AreNumbered → (job : Job) (number : ℕ) (bits : List Bool)
    → IsNumberedCase (words_along job number bits)
unfolding words_along
numbered_whole laws job number bits =
    let boundary = numbered job number in
    let start = start_words job.relation.shape boundary in
    numbered_along laws job (registers_in job.board start.terms) boundary.bound
    (standing_at job.board boundary start.terms)
    bits start.list (laws.starts job.relation.shape boundary)

-- the list of a case
pub numbered_case : AreNumbered → (job : Job) (number : ℕ) (bits : List Bool)
    → IsNumbered (words_along job number bits).list
numbered_case laws job number bits = (numbered_whole laws job number bits).numbered
