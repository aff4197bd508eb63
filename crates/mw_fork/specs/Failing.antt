-- What is found of the starts of a case that differ.
use Rattle.std.specs.Prelude.{◌≡◌, ◌≢◌, ℕ, List, Contains, Option, Some, None}
use Rattle.mw_term.specs.declared.decided.Decided.{Decided}
use Rattle.mw_rel.specs.Begin.{Begin}
use Rattle.mw_rel.specs.Case.{IsStartAt, case_of}
use Rattle.mw_rel.specs.CaseWords.{case_words}
use Rattle.mw_rel.specs.ComparisonWords.{Comparison}
use Rattle.mw_rel.specs.Differs.{difference_of}
use Rattle.mw_rel.specs.Job.{Job}
use Rattle.mw_rel.specs.OverBudget.{AreNodesOver}
use Rattle.mw_rel.specs.PathWords.{comparison_word}
use Rattle.mw_rel.specs.Sought.{IsSought}
use Rattle.mw_rel.specs.Start.{Start}
use Rattle.mw_rel.specs.SteadyCase.{case_of as steady_case_of}
use Rattle.mw_rel.specs.SteadyDiffers.{difference_of as steady_difference_of}
use Rattle.mw_rel.specs.SteadyStart.{Start as SteadyStart}
use Rattle.mw_term.specs.Assigned.{Numbers, given_by}
use Rattle.mw_term.specs.Cofactors.{HasAtMostCofactors}
use Rattle.mw_term.specs.Functions.{Function}
use Rattle.mw_dd.specs.Diagrams.{IsFirst}
use Rattle.mw_fork.specs.Begins.{IsDiffering, IsLeast}
use Rattle.mw_space.specs.declared.space.Space.{Space}
use Rattle.mw_fork.specs.Faults.{RunStop}
use Rattle.mw_explore.specs.declared.fault.Fault.TheVariants.{NoMemory, Over}
use Rattle.mw_course.specs.Listed.{list_of_space}
use Rattle.mw_course.specs.OnWay.{ground_in}
use Rattle.mw_course.specs.Starts.{IsGround, StandsForStart}

-- no start with a case differs
abbrev pub NoneDiffersOf : Job → (number : ℕ) → (bits : List Decided) → Type 0
NoneDiffersOf job number bits =
    (start : Start) → IsStartAt job number start → case_of job start ≡ bits → difference_of job start ≡ None

-- no path operation of a comparison of a case has more joint cofactors than so many nodes
abbrev pub ComparisonsAreWithin : Job → (number nodes : ℕ) → (bits : List Decided) → Type 0
ComparisonsAreWithin job number nodes bits =
    (c : Comparison) → Contains (case_words job number bits).comparisons c
    → HasAtMostCofactors (comparison_word job number bits c) nodes

-- Numbers are the first of those that are sought in a case, in the list of what there is; and each start without waits
-- that they stand for has this case and differs.
pub record IsFound (job : Job) (number : ℕ) (elements : List ℕ) (bits : List Decided)
    (space : Space) (numbers : Numbers)
    : Type 0 where
  pub stands : IsGround job number (ground_in space elements)
  pub sought : Function
  pub among : IsSought job number bits sought (list_of_space space)
  pub first : IsFirst sought numbers
  pub of_case : (start : SteadyStart) → StandsForStart job number (ground_in space elements) (given_by numbers) start
      → steady_case_of job start ≡ bits
  pub differs : (start : SteadyStart) → StandsForStart job number (ground_in space elements) (given_by numbers) start
      → steady_difference_of job start ≢ None

-- What is found of a case: nothing, where none of its starts differs, and no path operation of a comparison is over so
-- many nodes; or what gives one that differs, the least of those that are sought.
abbrev pub IsFoundOf : Job → (number nodes : ℕ) → (bits : List Decided) → Option Begin → Type 0
IsFoundOf job number nodes bits None = NoneDiffersOf job number bits × ComparisonsAreWithin job number nodes bits
IsFoundOf job number nodes bits (Some begin) = IsDiffering job number bits begin × IsLeast job number bits begin

-- An operation of the comparison is over the budget, in the list of the case; or memory ran out.
abbrev pub ComparisonStops : Job → (number nodes : ℕ) → (bits : List Decided) → RunStop → Type 0
ComparisonStops job number nodes bits (Over place) = AreNodesOver job number nodes bits place.word place.bit
ComparisonStops job number nodes bits NoMemory = Unit {0}
