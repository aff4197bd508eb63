-- Decided bits that are within a budget of nodes.
use Rattle.std.proofs.Common.{ℕ, List, [], ◌∷◌, ◌++◌}
use Rattle.mw_term.specs.declared.decided.Decided.{Decided}
use Rattle.mw_term.specs.declared.decided.DecidedKind.{DecidedKind}
use Rattle.mw_term.specs.Functions.{Function}
use Rattle.mw_cycle.specs.Decided.{decided}
use Rattle.std.specs.Prelude.{Bool}
use Rattle.mw_symmem.specs.Memory.{IsOfWidth}
use Rattle.mw_rel.specs.Job.{Job}
use Rattle.mw_rel.specs.OverBudget as lists
use Rattle.mw_course.specs.CasePaths.{IsNextOfCase}
use Rattle.mw_course.specs.Listed.{AsksFor}
use Rattle.mw_course.specs.OnWay.{IsOnWay}
use Rattle.mw_course.specs.Starts.{Ground}
use Rattle.mw_fork.specs.Failing.{ComparisonStops}
use Rattle.mw_fork.specs.Faults.{RunStop}
use Rattle.mw_fork.specs.Stops.{StopsBy}
use Rattle.mw_fork.specs.Within.{AreDecidedWithin, IsDecidedWithin}
use Rattle.mw_explore.specs.declared.fault.Fault.TheVariants.{NoMemory, Over}
use Rattle.mw_rel.specs.Case.{IsFeasiblePrefix}
use Rattle.mw_rel.specs.PathWords.{tree_of}
use Rattle.mw_compare.specs.TreeComparisons.{ComparisonStopsIn}
use Rattle.mw_decide.specs.Decisions.{IsOperationOver, StopsIn}
use Rattle.mw_decide.proofs.EachBit.{of_none, of_one_more}

-- no bits are within each budget
pub within_none : (job : Job) (number nodes : ℕ) → AreDecidedWithin job number nodes []
within_none job number nodes = of_none (IsDecidedWithin job number nodes)

-- one more is, whose path operations are
pub within_more : (job : Job) (number nodes : ℕ) (g : Ground) (bits : List Decided) (path : Function)
    (kind : DecidedKind) (term : ℕ) (value : Bool) → IsOnWay job number g bits path → AsksFor job number bits g term
    → IsOfWidth g.table 1 term → IsNextOfCase job number g bits path kind term → lists.IsWithin job number nodes bits
    → AreDecidedWithin job number nodes bits
    → AreDecidedWithin job number nodes (bits ++ decided kind value ∷ [])
within_more job number nodes g bits path kind term value on asks wide asked within are =
    of_one_more (IsDecidedWithin job number nodes) bits (decided kind value) are (record {
      listed = record {
        basis = g;
        stands = on.stands;
        path = path;
        written = on.written;
        cases = on.cases;
        term = term;
        asks = asks;
        wide = wide;
        next = asked;
      };
      within = within;
    })

-- an operation of the list is over the budget there
nodes_over : (job : Job) (number nodes : ℕ) (bits : List Decided) (word j : ℕ) → IsFeasiblePrefix job number bits
    → IsOperationOver (tree_of job number) nodes bits word j → lists.AreNodesOver job number nodes bits word j
nodes_over job number nodes bits word j feasible is =
    record { feasible = feasible; operation = is.operation; listed = is.listed; over = is.over }

-- a decision is stopped by it
pub stops_by : (job : Job) (number nodes : ℕ) (bits : List Decided) (stop : RunStop) → IsFeasiblePrefix job number bits
    → StopsIn (tree_of job number) nodes bits stop → StopsBy job number nodes bits stop
stops_by job number nodes bits (Over place) feasible is =
    record { asks = is.0; over = nodes_over job number nodes bits place.word place.bit feasible is.1 }
stops_by job number nodes bits NoMemory feasible is = tt

-- and so is a comparison
pub comparison_stops : (job : Job) (number nodes : ℕ) (bits : List Decided) (stop : RunStop)
    → IsFeasiblePrefix job number bits → ComparisonStopsIn (tree_of job number) nodes bits stop
    → ComparisonStops job number nodes bits stop
comparison_stops job number nodes bits (Over place) feasible is =
    nodes_over job number nodes bits place.word place.bit feasible is
comparison_stops job number nodes bits NoMemory feasible is = tt
