-- Decided bits of twin cases that are within a budget of nodes, and decisions that are over it.
use Rattle.std.proofs.Common.{ℕ, List, [], ◌∷◌, ◌++◌}
use Rattle.std.specs.Prelude.{Bool}
use Rattle.mw_cycle.specs.Decided.{decided}
use Rattle.mw_decide.proofs.EachBit.{of_none, of_one_more}
use Rattle.mw_decide.specs.Decisions.{StopsIn}
use Rattle.mw_decide.specs.Faults.{RunStop}
use Rattle.mw_explore.specs.declared.fault.Fault.TheVariants.{NoMemory, Over}
use Rattle.mw_rel.specs.TreeBudgets.{IsWithin}
use Rattle.mw_revise.specs.TwinBudgets.{IsTwinPrefix}
use Rattle.mw_revise.specs.TwinWords.{twin_tree}
use Rattle.mw_space.specs.declared.space.Space.{Space}
use Rattle.mw_symmem.specs.Memory.{IsOfWidth}
use Rattle.mw_term.specs.declared.decided.Decided.{Decided}
use Rattle.mw_term.specs.declared.decided.DecidedKind.{DecidedKind}
use Rattle.mw_term.specs.Functions.{Function}
use Rattle.mw_twin.specs.OnTwins.{AsksFor}
use Rattle.mw_twin.specs.Origins.{ground_in}
use Rattle.mw_twin.specs.RevisedBlocks.{RevisedBlock}
use Rattle.mw_twin.specs.TwinPaths.{IsNextOfTwins, IsOnWay}
use Rattle.mw_twinfork.specs.Stops.{StopsBy}
use Rattle.mw_twinfork.specs.Within.{AreDecidedWithin, IsDecidedWithin}

-- no bits are within each budget
pub within_none : (s : RevisedBlock) (nodes : ℕ) → AreDecidedWithin s nodes []
within_none s nodes = of_none (IsDecidedWithin s nodes)

-- one more is, whose path operations are
pub within_more : (s : RevisedBlock) (nodes : ℕ) (space : Space) (old_elements new_elements : List ℕ)
    (bits : List Decided) (path : Function) (kind : DecidedKind) (term : ℕ) (value : Bool)
    → IsOnWay s.revision s.block (ground_in space old_elements new_elements) bits path
    → AsksFor s.revision s.block bits space term → IsOfWidth space.terms 1 term
    → IsNextOfTwins s.revision s.block (ground_in space old_elements new_elements) bits path kind term
    → IsWithin (twin_tree s.revision s.block) nodes bits → AreDecidedWithin s nodes bits
    → AreDecidedWithin s nodes (bits ++ decided kind value ∷ [])
within_more s nodes space old_elements new_elements bits path kind term value on asks wide asked within are =
    of_one_more (IsDecidedWithin s nodes) bits (decided kind value) are (record {
      listed = record {
        space = space;
        old_elements = old_elements;
        new_elements = new_elements;
        stands = on.stands;
        path = path;
        written = on.written;
        cases = on.cases;
        term = term;
        asks = asks;
        wide = wide;
        next = asked;
      };
      within = within;
    })

-- a decision that the list stops is over the budget there
pub stops_by : (s : RevisedBlock) (nodes : ℕ) (bits : List Decided) (stop : RunStop)
    → IsTwinPrefix s.revision s.block bits → StopsIn (twin_tree s.revision s.block) nodes bits stop
    → StopsBy s nodes bits stop
stops_by s nodes bits (Over place) feasible is = record {
  asks = is.0;
  over = record { feasible = feasible; operation = is.1.operation; listed = is.1.listed; over = is.1.over };
}
stops_by s nodes bits NoMemory feasible is = tt
