-- The console run of a described machine: steps whose inputs the console answers.
use Rattle.std.specs.Prelude.{ℕ, zero, suc, List, [], ◌++◌, map, false, slice_index}
use Rattle.mw_base.specs.declared.event.Event.{Event}
use Rattle.mw_cycle.specs.Boundary.{numbers}
use Rattle.mw_macro.specs.DescribedStep.{Stepped, step_of}
use Rattle.mw_macro.specs.Machine.{Description}
use Rattle.mw_macro.specs.State.{MachineState}
use Rattle.mw_pal.specs.Devices.{Console, transfer_of, answer_to, console_after}

-- ---- one step

-- a described step from a state without a request, with these inputs and 0 past them
abbrev pub step_with : Description → MachineState → (inputs : List ℕ) → Stepped
step_with m state inputs = step_of m state false inputs 0

-- the events that the console answers: those of the described step with zeros as its inputs
abbrev pub asked : Description → MachineState → List Event
asked m state = (step_with m state []).events

-- the inputs that a step took of these, and of 0 past their end
abbrev pub taken_of : (inputs : List ℕ) → Stepped → List ℕ
taken_of inputs step = map (slice_index inputs) (numbers 0 step.taken)

-- where a console run has come to: the machine's state, the console, and the inputs that the steps took
pub record ConsoleRun : Type 0 where
  pub state : MachineState
  pub console : Console
  pub inputs : List ℕ

-- the console's answer to the next step
abbrev pub answer_in : Description → ConsoleRun → List ℕ
answer_in m run = answer_to run.console (transfer_of (asked m run.state))

-- the next step: the described step with this answer as its inputs
abbrev pub answered : Description → ConsoleRun → Stepped
answered m run = step_with m run.state (answer_in m run)

-- a step more: the inputs grow by those that the answered step took
unfoldable pub longer_run : Description → ConsoleRun → ConsoleRun
longer_run m run = record {
  state = (answered m run).state;
  console = console_after run.console (transfer_of (asked m run.state));
  inputs = run.inputs ++ taken_of (answer_in m run) (answered m run);
}

-- ---- so many steps

-- before the first step no key was read, nothing was printed, and no input was taken
abbrev pub before_run : MachineState → (keys : List ℕ) → ConsoleRun
before_run state keys = record { state = state; console = record { keys = keys; text = [] }; inputs = [] }

-- the console run of so many steps
unfoldable pub run_of : Description → MachineState → (keys : List ℕ) → (steps : ℕ) → ConsoleRun
run_of m state keys zero = before_run state keys
run_of m state keys (suc steps) = longer_run m (run_of m state keys steps)
