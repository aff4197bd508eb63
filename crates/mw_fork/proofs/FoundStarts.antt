-- The start that is found of a case.
use Rattle.std.proofs.Common.{ℕ, List, sym, ◌∙◌}
use Rattle.mw_term.specs.declared.decided.Decided.{Decided}
use Rattle.mw_rel.specs.Begin.{Begin}
use Rattle.mw_rel.specs.Job.{Job}
use Rattle.mw_rel.specs.SteadyStart.{Start}
use Rattle.mw_ready.specs.Thinned.{always_ready}
use Rattle.mw_ready.proofs.Alike.{same_case, same_difference}
use Rattle.mw_term.specs.Assigned.{Numbers, given_by}
use Rattle.mw_space.specs.declared.space.Space.{Space}
use Rattle.mw_course.specs.Begins.{IsAssigned, IsChosen}
use Rattle.mw_fork.specs.Begins.{IsDiffering, IsLeast}
use Rattle.mw_fork.specs.Failing.{IsFound}
use Rattle.mw_course.specs.Listed.{list_of_space}
use Rattle.mw_course.specs.OnWay.{ground_in}
use Rattle.mw_course.specs.Starts.{IsGround, StandsForStart}

-- what was found of a start that differs
pub found_differs : (job : Job) (boundary : ℕ) (elements : List ℕ) (space : Space) (numbers : Numbers) (begin : Begin)
    (bits : List Decided) → IsFound job boundary elements bits space numbers
    → ((elements : List ℕ) → IsGround job boundary (ground_in space elements)
    → (start : Start) × IsChosen job boundary begin (always_ready start)
    × StandsForStart job boundary (ground_in space elements) (given_by numbers) start)
    → IsDiffering job boundary bits begin
found_differs job boundary elements space numbers begin bits found begins =
    let is = begins elements found.stands in
    record {
      start = always_ready is.0;
      chosen = is.1;
      of_case = same_case job is.0 ∙ found.of_case is.0 is.2;
      differs = λ none. found.differs is.0 is.2 (sym (same_difference job is.0) ∙ none);
    }

-- it is the least
pub found_least : (job : Job) (boundary : ℕ) (elements : List ℕ) (space : Space) (numbers : Numbers) (begin : Begin)
    (bits : List Decided) → IsFound job boundary elements bits space numbers
    → IsAssigned job boundary (list_of_space space) (given_by numbers) begin → IsLeast job boundary bits begin
found_least job boundary elements space numbers begin bits found assigned = record {
  sought = found.sought;
  list = list_of_space space;
  among = found.among;
  numbers = numbers;
  first = found.first;
  assigned = assigned;
}
