-- A generated job.
use Rattle.std.specs.Prelude.{◌≡◌, ℕ}
use Rattle.mw_rel.specs.Job.{Job}
use Rattle.mw_cases.specs.Board.{generated_board}
use Rattle.mw_cases.specs.Described.{generated_machine}
use Rattle.mw_cases.specs.Related.{generated_relation}
use Rattle.mw_cases.specs.Words.{IsStore}

-- what the job of a number has
pub record IsGenerated (number : ℕ) (job : Job) : Type 0 where
  pub board : job.board ≡ generated_board
  pub store : IsStore number job.store
  pub machine : job.machine ≡ generated_machine number
  pub relation : job.relation ≡ generated_relation
