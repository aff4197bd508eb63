-- A run of the described machine along a run of a board.
use Rattle.std.specs.Prelude.{ℕ, ◌+◌, List, [], ◌++◌, Bool}
use Rattle.mw_cycle.specs.Boundary.{IsBoundary}
use Rattle.mw_macro.specs.DescribedStep.{Stepped, step_of}
use Rattle.mw_macro.specs.Machine.{Description}
use Rattle.mw_macro.specs.State.{MachineState}

-- before the first step: no event, and no input taken
abbrev pub before_steps : MachineState → Stepped
before_steps state = record { state = state; events = []; taken = 0 }

-- a step more, with this request, whose inputs are those from the number on that was reached
abbrev pub with_step : Description → (request : Bool) → (inputs : List ℕ) → Stepped → Stepped
with_step m request inputs before =
    let step = step_of m before.state request inputs before.taken in
    record {
      state = step.state;
      events = before.events ++ step.events;
      taken = before.taken + step.taken;
    }

-- The state that k steps leave, their events in one list, and how many inputs they took, where `at` gives the control
-- address of each cycle start of the board's run, and `line` the line of the clock that makes each cycle. The request
-- of each step is the line of the clock that makes the first cycle of its segment.
pub data IsDescribedRun (m : Description) (addresses : List ℕ) (at : ℕ → ℕ) (line : ℕ → Bool) (inputs : List ℕ)
    (start : MachineState) : ℕ → Stepped → Type 0 where
  begins : IsDescribedRun m addresses at line inputs start 0 (before_steps start)
  steps : (k c : ℕ) (before : Stepped) → IsDescribedRun m addresses at line inputs start k before
      → IsBoundary addresses at k c
      → IsDescribedRun m addresses at line inputs start (k + 1) (with_step m (line c) inputs before)
