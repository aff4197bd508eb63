-- Laws of console runs.
use Rattle.std.specs.Prelude.{◌≡◌, ℕ, zero, suc, ◌+◌, List, [], ◌∷◌, ◌++◌, length, map, false}
use Rattle.std.specs.List.{fold}
use Rattle.mw_base.specs.declared.event.Event.{Event}
use Rattle.mw_base.specs.declared.event.Event.TheVariants.{Out, Taken}
use Rattle.mw_macro.specs.DescribedStep.{step_of}
use Rattle.mw_macro.specs.Machine.{Description}
use Rattle.mw_macro.specs.State.{MachineState}
use Rattle.mw_pal.specs.Console.{run_of, step_with}
use Rattle.mw_pal.specs.Devices.{Console, console_after, transfer_of}

-- ---- the same steps without a console

-- described steps, one after another: the state that they leave, the events of each, and how many inputs they took
pub record Steps : Type 0 where
  pub state : MachineState
  pub events : List (List Event)
  pub taken : ℕ

-- no step
abbrev pub no_step : MachineState → Steps
no_step state = record { state = state; events = []; taken = 0 }

-- a step more without a request, which takes the inputs that were not taken yet
abbrev pub with_step : Description → (inputs : List ℕ) → Steps → Steps
with_step m inputs before =
    let step = step_of m before.state false inputs before.taken in
    record {
      state = step.state;
      events = before.events ++ step.events ∷ [];
      taken = before.taken + step.taken;
    }

-- so many steps from a state
unfoldable pub steps_of : Description → MachineState → (inputs : List ℕ) → (count : ℕ) → Steps
steps_of m state inputs zero = no_step state
steps_of m state inputs (suc count) = with_step m inputs (steps_of m state inputs count)

-- The steps over the inputs that a console run took leave the state of that run, and take these inputs.
abbrev pub InputsMakeTheRun : Type 0
InputsMakeTheRun = (m : Description) (state : MachineState) (keys : List ℕ) (count : ℕ)
    → let run = run_of m state keys count in
    ((steps_of m state run.inputs count).state ≡ run.state)
    × ((steps_of m state run.inputs count).taken ≡ length run.inputs)

-- ---- the text of outputs

-- an event without the word that was taken
abbrev pub outer : Event → Event
outer (Out word) = Out word
outer (Taken input) = Taken 0

-- the outputs of a step, the number of its inputs and the order of both don't depend on the inputs that it takes
abbrev pub OutputsIgnoreInputs : Description → Type 0
OutputsIgnoreInputs m = (state : MachineState) (one other : List ℕ)
    → map outer (step_with m state one).events ≡ map outer (step_with m state other).events

-- the text of a console with these keys that reads the events of steps
abbrev pub text_of : (keys : List ℕ) → List (List Event) → List ℕ
text_of keys events =
    (fold (λ (console : Console) (step : List Event). console_after console (transfer_of step))
    (record { keys = keys; text = [] }) events).text

-- Where nothing put out depends on inputs, the text of what the steps over these inputs put out is the printed one.
abbrev pub TextIsRead : Type 0
TextIsRead = (m : Description) → OutputsIgnoreInputs m → (state : MachineState) (keys : List ℕ) (count : ℕ)
    → let run = run_of m state keys count in
    text_of keys (steps_of m state run.inputs count).events ≡ run.console.text
