-- What a fork of twin starts gives: the feasible cases of a block, one after another.
use Rattle.std.specs.Prelude.{ℕ}
use Rattle.mw_explore.specs.Cases.{Standing}
use Rattle.mw_explore.specs.Explorers.{Explorer}
use Rattle.mw_fork.specs.declared.budget.Budget.{Budget}
use Rattle.mw_twin.specs.RevisedBlocks.{RevisedBlock}
use Rattle.mw_twinfork.specs.declared.twins.Twins.{Twins}

-- the revision and its block, the number of the block, the budget, how many cases were given, and where it stands among
-- them
pub record TwinFork : Type 0 where
  pub revised : RevisedBlock
  pub boundary : ℕ
  pub budget : Budget
  pub given : ℕ
  pub at : Standing

-- a fork that explores twin starts
abbrev pub fork_of : Explorer Twins → TwinFork
fork_of e = record {
  revised = e.tree.revised;
  boundary = e.tree.boundary;
  budget = record { nodes = e.tree.nodes; paths = e.limit };
  given = e.given;
  at = e.at;
}
