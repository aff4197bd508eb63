-- The twin start that is found of a case.
use Rattle.std.proofs.Common.{ℕ, List, [], append-nil, ap, sym, subst, ◌∙◌}
use Rattle.mw_compare.specs.TreeComparisons.{ComparisonStopsIn}
use Rattle.mw_decide.specs.Faults.{RunStop}
use Rattle.mw_explore.specs.declared.fault.Fault.TheVariants.{NoMemory, Over}
use Rattle.mw_revise.specs.TwinBudgets.{IsTwinCase, IsTwinPrefix}
use Rattle.mw_revise.specs.TwinWords.{twin_tree}
use Rattle.mw_space.specs.declared.space.Space.{Space}
use Rattle.mw_space.specs.Spaces.{list_of_space}
use Rattle.mw_term.specs.Assigned.{Numbers, given_by}
use Rattle.mw_term.specs.declared.decided.Decided.{Decided}
use Rattle.mw_twin.specs.Assigned.{IsTwinAssigned, twins_of}
use Rattle.mw_twin.specs.declared.starts.TwinStarts.{TwinStarts}
use Rattle.mw_twin.specs.Grounds.{StandsForTwins}
use Rattle.mw_twin.specs.Origins.{ground_in}
use Rattle.mw_twin.specs.RevisedBlocks.{RevisedBlock}
use Rattle.mw_twin.specs.declared.course.Course.{Course}
use Rattle.mw_twincompare.specs.Failing.{IsFound, StaysAs}
use Rattle.mw_twinfork.specs.Found.{ComparisonStops, IsDiffering, IsLeast}

-- what was found of a case gives one that differs, the least
pub found_of : (s : RevisedBlock) (nodes : ℕ) (old_elements new_elements : List ℕ) (bits : List Decided) (space : Space)
    (numbers : Numbers) (starts : TwinStarts) → IsFound s old_elements new_elements bits space numbers
    → StandsForTwins s.revision s.block (ground_in space old_elements new_elements) (given_by numbers)
    (twins_of s.block starts)
    → IsTwinAssigned s.revision.board s.block (list_of_space space) (given_by numbers) starts
    → IsDiffering s bits starts × IsLeast s bits starts
found_of s nodes old_elements new_elements bits space numbers starts found stands assigned = (
  record {
    at_block = stands.starts;
    of_case = found.of_case (twins_of s.block starts) stands;
    differs = found.differs (twins_of s.block starts) stands;
  },
  record {
    sought = found.sought;
    list = list_of_space space;
    among = found.among;
    numbers = numbers;
    first = found.first;
    assigned = assigned;
  },
)

-- what was found is found on the course as it is now
pub found_now : (s : RevisedBlock) (old new : Course) (bits : List Decided) (numbers : Numbers) → StaysAs old new
    → IsFound s old.old_elements.items old.new_elements.items bits new.space numbers
    → IsFound s new.old_elements.items new.new_elements.items bits new.space numbers
found_now s old new bits numbers stays found =
    subst (λ (xs : List ℕ). IsFound s xs new.new_elements.items bits new.space numbers)
    (sym (ap (λ v. v.items) stays.old_elements))
    (subst (λ (xs : List ℕ). IsFound s old.old_elements.items xs bits new.space numbers)
    (sym (ap (λ v. v.items) stays.new_elements)) found)

-- a case is a feasible prefix
prefix_of_case : (s : RevisedBlock) (bits : List Decided) → IsTwinCase s.revision s.block bits
    → IsTwinPrefix s.revision s.block bits
prefix_of_case s bits case = record {
  twins = case.twins;
  starts = case.starts;
  rest = [];
  bits_are = case.bits_are ∙ sym (append-nil bits);
}

-- where its comparison stops, an operation of its list is over the budget
pub comparison_stops : (s : RevisedBlock) (nodes : ℕ) (bits : List Decided) (stop : RunStop)
    → IsTwinCase s.revision s.block bits → ComparisonStopsIn (twin_tree s.revision s.block) nodes bits stop
    → ComparisonStops s nodes bits stop
comparison_stops s nodes bits (Over place) case is = record {
  feasible = prefix_of_case s bits case;
  operation = is.operation;
  listed = is.listed;
  over = is.over;
}
comparison_stops s nodes bits NoMemory case is = tt
