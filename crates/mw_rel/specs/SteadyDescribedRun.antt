-- A run of the described machine along a run of a board that never waits.
use Rattle.std.specs.Prelude.{ℕ, ◌+◌, List, ◌++◌, false, slice_index_or}
use Rattle.mw_cycle.specs.Boundary.{IsBoundary}
use Rattle.mw_cycle.specs.SteadyEnvironment.{Environment}
use Rattle.mw_macro.specs.DescribedStep.{Stepped, step_of}
use Rattle.mw_macro.specs.Machine.{Description}
use Rattle.mw_macro.specs.State.{MachineState}
use Rattle.mw_rel.specs.DescribedRun.{before_steps}

-- a step more: its request is the line of the cycle c, and its inputs are those from the number on that was reached
abbrev pub with_step : Description → Environment → ℕ → Stepped → Stepped
with_step m env c before =
    let step = step_of m before.state (slice_index_or env.line c false) env.inputs before.taken in
    record {
      state = step.state;
      events = before.events ++ step.events;
      taken = before.taken + step.taken;
    }

-- The state that k steps leave, their events in one list, and how many inputs they took, where `at` gives the control
-- address of each cycle start of the board's run. The request of each step is the line of the first cycle of its
-- segment.
pub data IsDescribedRun (m : Description) (addresses : List ℕ) (at : ℕ
    → ℕ) (env : Environment) (start : MachineState) : ℕ → Stepped → Type 0 where
  begins : IsDescribedRun m addresses at env start 0 (before_steps start)
  steps : (k c : ℕ) (before : Stepped) → IsDescribedRun m addresses at env start k before → IsBoundary addresses at k c
      → IsDescribedRun m addresses at env start (k + 1) (with_step m env c before)
