-- The described steps over the inputs of a console run, and the text that is read from what they put out.
use Rattle.std.proofs.Common.{◌≡◌, ℕ, zero, suc, ◌+◌, ◌<◌, List, [], ◌∷◌, ◌++◌, length, map, false, refl, sym, ap, ◌∙◌}
use Rattle.std.proofs.Common.{append_assoc, length-append, slice_index, arith}
use Rattle.std.specs.List.{fold}
use Rattle.std.proofs.lemmas.List.{append-nil, length-map}
use Rattle.std.proofs.lemmas.List.Sums.{fold-append}
use Rattle.mw_base.specs.declared.event.Event.{Event}
use Rattle.mw_base.specs.declared.event.Event.TheVariants.{Out, Taken}
use Rattle.mw_cycle.specs.Boundary.{numbers}
use Rattle.mw_macro.specs.DescribedStep.{Stepped, step_of}
use Rattle.mw_macro.specs.Machine.{Description}
use Rattle.mw_macro.specs.State.{MachineState}
use Rattle.mw_rel.proofs.Elements.{back_at, numbers_length}
use Rattle.mw_pal.specs.Console.{ConsoleRun, answer_in, answered, asked, longer_run, run_of, taken_of}
use Rattle.mw_pal.specs.Devices.{Console, console_after, transfer_of}
use Rattle.mw_pal.specs.Laws.{InputsMakeTheRun, OutputsIgnoreInputs, TextIsRead, outer, steps_of}
use Rattle.mw_pal.proofs.StepInputs.{step_same}

-- ---- lists of inputs

-- an item of what is made of numbers, before others
made_at : (f : ℕ → ℕ) (from n : ℕ) (rest : List ℕ) (i : ℕ) → i < n
    → slice_index (map f (numbers from n) ++ rest) i ≡ f (from + i)
made_at f from zero rest i below = absurd (omega arith)
made_at f from (suc n) rest zero below = ap f (omega arith)
made_at f from (suc n) rest (suc i) below =
    let place : from + 1 + i ≡ from + suc i = omega arith in
    made_at f (from + 1) n rest i (omega arith) ∙ ap f place

-- ---- the steps

-- so many steps over inputs are those of a console run
record Agree (m : Description) (state : MachineState) (keys inputs : List ℕ) (count : ℕ) : Type 0 where
  same : (steps_of m state inputs count).state ≡ (run_of m state keys count).state
  taken : (steps_of m state inputs count).taken ≡ length (run_of m state keys count).inputs

-- a step over inputs that go on with those that the console's step took is this one
step_over : (m : Description) (run : ConsoleRun) (inputs rest : List ℕ)
    → inputs ≡ run.inputs ++ (taken_of (answer_in m run) (answered m run) ++ rest)
    → step_of m run.state false inputs (length run.inputs) ≡ answered m run
step_over m run inputs rest are =
    let answer = answer_in m run in
    let count = (answered m run).taken in
    step_same m run.state false inputs answer (length run.inputs) (λ i below.
    let place : 0 + i ≡ i = omega arith in
    ap (λ all. slice_index all (length run.inputs + i)) are
    ∙ back_at run.inputs (taken_of answer (answered m run) ++ rest) i
    ∙ made_at (slice_index answer) 0 count rest i below ∙ ap (slice_index answer) place)

-- the next step after so many
next_step : (m : Description) (state : MachineState) (keys inputs rest : List ℕ) (count : ℕ)
    → Agree m state keys inputs count
    → inputs ≡ (run_of m state keys count).inputs
    ++ (taken_of (answer_in m (run_of m state keys count)) (answered m (run_of m state keys count)) ++ rest)
    → step_of m (steps_of m state inputs count).state false inputs (steps_of m state inputs count).taken
    ≡ answered m (run_of m state keys count)
next_step m state keys inputs rest count agree are =
    rw (agree.same, agree.taken) (step_over m (run_of m state keys count) inputs rest are)

-- the inputs of one step more, in parts
parted : (m : Description) (run : ConsoleRun) (inputs rest : List ℕ) → inputs ≡ (longer_run m run).inputs ++ rest
    → inputs ≡ run.inputs ++ (taken_of (answer_in m run) (answered m run) ++ rest)
unfolding longer_run
parted m run inputs rest are = are ∙ append_assoc run.inputs (taken_of (answer_in m run) (answered m run)) rest

agree : (m : Description) (state : MachineState) (keys inputs rest : List ℕ) (count : ℕ)
    → inputs ≡ (run_of m state keys count).inputs ++ rest → Agree m state keys inputs count
unfolding run_of steps_of longer_run
agree m state keys inputs rest zero are = record { same = refl; taken = refl }
agree m state keys inputs rest (suc count) are =
    let run = run_of m state keys count in
    let answer = answer_in m run in
    let took = taken_of answer (answered m run) in
    let parts = parted m run inputs rest are in
    let before = agree m state keys inputs (took ++ rest) count parts in
    let step = next_step m state keys inputs rest count before parts in
    record {
      same = ap (λ (s : Stepped). s.state) step;
      taken = omega (
        arith,
        before.taken,
        ap (λ (s : Stepped). s.taken) step,
        length-append run.inputs took,
        length-map (numbers 0 (answered m run).taken) (slice_index answer),
        numbers_length 0 (answered m run).taken,
      );
    }

-- ---- the text

-- a transfer doesn't depend on the words that were taken
outer_transfer : (events : List Event) → transfer_of (map outer events) ≡ transfer_of events
outer_transfer (Out selection ∷ Out word ∷ Taken first ∷ Taken second ∷ []) = refl
outer_transfer events = refl

same_transfer : (one other : List Event) → map outer one ≡ map outer other → transfer_of one ≡ transfer_of other
same_transfer one other same = sym (outer_transfer one) ∙ ap transfer_of same ∙ outer_transfer other

reads : (m : Description) (state : MachineState) (keys inputs rest : List ℕ) (count : ℕ) → OutputsIgnoreInputs m
    → inputs ≡ (run_of m state keys count).inputs ++ rest
    → fold (λ (console : Console) (step : List Event). console_after console (transfer_of step))
    (record { keys = keys; text = [] }) (steps_of m state inputs count).events
    ≡ (run_of m state keys count).console
unfolding run_of steps_of longer_run
reads m state keys inputs rest zero ignore are = refl
reads m state keys inputs rest (suc count) ignore are =
    let run = run_of m state keys count in
    let took = taken_of (answer_in m run) (answered m run) in
    let parts = parted m run inputs rest are in
    let before = agree m state keys inputs (took ++ rest) count parts in
    let step = next_step m state keys inputs rest count before parts in
    fold-append (λ (console : Console) (events : List Event). console_after console (transfer_of events))
    (record { keys = keys; text = [] }) (steps_of m state inputs count).events _
    ∙ rw (reads m state keys inputs (took ++ rest) count ignore parts, step)
    (ap (console_after run.console)
    (same_transfer (answered m run).events (asked m run.state) (ignore run.state (answer_in m run) [])))

-- ---- the laws

pub inputs_make_the_run : InputsMakeTheRun
inputs_make_the_run m state keys count =
    let run = run_of m state keys count in
    let all = agree m state keys run.inputs [] count (sym (append-nil run.inputs)) in
    (all.same, all.taken)

pub text_is_read : TextIsRead
text_is_read m ignore state keys count =
    let run = run_of m state keys count in
    ap (λ (console : Console). console.text)
    (reads m state keys run.inputs [] count ignore (sym (append-nil run.inputs)))
