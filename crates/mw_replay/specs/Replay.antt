-- Segment after segment from a start, each with one described step.
use Rattle.std.specs.Prelude.{◌≡◌, ℕ, ◌+◌, ◌<◌, length, Some, None}
use Rattle.mw_cycle.specs.declared.environment.Clock.{Clock}
use Rattle.mw_cycle.specs.Environment.{Environment, IsEnvironment, rest_at}
use Rattle.mw_cycle.specs.Run.{BoardRun, line_of_cycle}
use Rattle.mw_macro.specs.DescribedStep.{Stepped, step_of}
use Rattle.mw_rel.specs.Certified.{boundary_at}
use Rattle.mw_rel.specs.Differs.{difference_of, segment_of, start_after}
use Rattle.mw_rel.specs.Free.{numbered}
use Rattle.mw_rel.specs.InRelation.{Pair}
use Rattle.mw_rel.specs.Job.{Job}
use Rattle.mw_rel.specs.Relation.{Boundary}
use Rattle.mw_rel.specs.Start.{Start, IsStart}

-- where a replay stands: at a boundary by number, with the pair there, its environment, and how far it has come in it
pub record Replay : Type 0 where
  pub boundary : ℕ
  pub pair : Pair
  pub env : Environment
  pub clock : Clock

-- the start of its next segment: the boundary, the pair there, and what is left of the environment
abbrev pub next_start : Job → Replay → Start
next_start job replay = record {
  boundary = numbered job replay.boundary;
  pair = replay.pair;
  env = rest_at replay.env replay.clock;
}

-- it stands at a boundary of the job, with a start of it
pub record IsReplay (job : Job) (replay : Replay) : Type 0 where
  pub there : replay.boundary < length job.relation.boundaries
  pub start : IsStart job (next_start job replay)
  pub env : IsEnvironment job.board replay.env

-- the described step from a pair: its request is the line of the clock that makes the board's first cycle, and its
-- inputs begin at number 0
abbrev pub step_with : Job → Pair → Environment → Stepped
step_with job pair env = step_of job.machine pair.machine
    (line_of_cycle job.board job.store env pair.board 0) env.inputs 0

-- a start, and then that of its next segment
pub record Follows (job : Job) (start next : Start) : Type 0 where
  pub run : BoardRun
  pub reached : Boundary
  pub segment : segment_of job start ≡ Some run
  pub there : boundary_at job run.state.at ≡ Some reached
  pub is_next : next ≡ start_after job start run reached

-- k steps from a start that show no difference, and the start after them
pub data IsReached (job : Job) (start : Start) : ℕ → Start → Type 0 where
  begins : IsReached job start 0 start
  goes_on : (k : ℕ) (here next : Start) → IsReached job start k here → difference_of job here ≡ None
      → Follows job here next → IsReached job start (k + 1) next
