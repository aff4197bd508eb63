-- Runs of both machines: how far they have come, and how they go on.
use Rattle.std.proofs.Common.{◌≡◌, ℕ, zero, suc, ◌+◌, List, [], ◌∷◌, ◌++◌, drop, Option, Some, None, slice_index_or}
use Rattle.std.proofs.Common.{false, refl, ap, sym, ap₂, ◌∙◌, add-zero, arith}
use Rattle.std.specs.Option.{option_to_list}
use Rattle.std.proofs.lemmas.List.{get_or-drop}
use Rattle.mw_base.specs.declared.event.Event.{Event}
use Rattle.mw_base.specs.declared.event.Event.TheVariants.{Out, Taken}
use Rattle.mw_board.specs.declared.parts.BoardParts.{BoardParts}
use Rattle.mw_cycle.specs.SteadyEnvironment.{Clock}
use Rattle.mw_cycle.specs.State.{BoardState}
use Rattle.mw_cycle.specs.Cycle.{nets_of}
use Rattle.mw_cycle.specs.Boundary.{IsBoundary}
use Rattle.mw_cycle.specs.SteadyEnvironment.{Environment, given_at}
use Rattle.mw_cycle.specs.SteadyRun.{clock_after, longer_run, run_of}
use Rattle.mw_macro.specs.DescribedStep.{Stepped, step_of}
use Rattle.mw_macro.specs.Laws.{inputs_in}
use Rattle.mw_macro.specs.Machine.{Description}
use Rattle.mw_macro.specs.State.{MachineState}
use Rattle.mw_macro.proofs.Steps.{taken_are_events}
use Rattle.mw_rel.specs.DescribedRun.{before_steps}
use Rattle.mw_rel.specs.SteadyDescribedRun.{IsDescribedRun, with_step}
use Rattle.mw_rel.proofs.Boundaries.{once}

-- ---- how many cycles were made, and how many inputs taken

inputs_together : (xs ys : List Event) → inputs_in (xs ++ ys) ≡ inputs_in xs + inputs_in ys
inputs_together [] ys = omega arith
inputs_together (Taken v ∷ rest) ys = omega (arith, inputs_together rest ys)
inputs_together (Out v ∷ rest) ys = inputs_together rest ys

cycle_more : (event : Option Event) (clock : Clock) → (clock_after event clock).cycle ≡ clock.cycle + 1
cycle_more (Some (Taken v)) clock = refl
cycle_more (Some (Out v)) clock = refl
cycle_more None clock = refl

taken_more : (event : Option Event) (clock : Clock)
    → (clock_after event clock).taken ≡ clock.taken + inputs_in (option_to_list event)
taken_more (Some (Taken v)) clock = refl
taken_more (Some (Out v)) clock = sym (add-zero clock.taken)
taken_more None clock = sym (add-zero clock.taken)

-- a run of n cycles is at cycle n
pub cycles_are : (board : BoardParts) (store : List ℕ) (env : Environment) (start : BoardState) (n : ℕ)
    → (run_of board store env start n).clock.cycle ≡ n
unfolding run_of longer_run
cycles_are board store env start zero = refl
cycles_are board store env start (suc n) =
    let run = run_of board store env start n in
    let event = (nets_of board store run.state (given_at env run.clock)).event in
    omega (arith, cycle_more event run.clock, cycles_are board store env start n)

-- and has taken as many inputs as its events say
pub inputs_are : (board : BoardParts) (store : List ℕ) (env : Environment) (start : BoardState) (n : ℕ)
    → (run_of board store env start n).clock.taken ≡ inputs_in (run_of board store env start n).events
unfolding run_of longer_run
inputs_are board store env start zero = refl
inputs_are board store env start (suc n) =
    let run = run_of board store env start n in
    let event = (nets_of board store run.state (given_at env run.clock)).event in
    omega (
      arith,
      taken_more event run.clock,
      inputs_are board store env start n,
      inputs_together run.events
          (option_to_list event),
    )

-- so has the described machine
pub steps_take : (m : Description) (addresses : List ℕ) (at : ℕ
    → ℕ) (env : Environment) (start : MachineState) (k : ℕ) (steps : Stepped)
    → IsDescribedRun m addresses at env start k steps → steps.taken ≡ inputs_in steps.events
steps_take m addresses at env start k steps IsDescribedRun.begins = refl
steps_take m addresses at env start k steps (IsDescribedRun.steps i c before described comes) =
    let step = step_of m before.state (slice_index_or env.line c false) env.inputs before.taken in
    omega (
      arith,
      steps_take m addresses at env start i before described,
      inputs_together before.events step.events,
      taken_are_events m before.state (slice_index_or env.line c false) env.inputs before.taken,
    )

-- ---- what is left

-- the line at the beginning of what is left is that of the cycle reached
pub line_left : (env : Environment) (c : ℕ) → slice_index_or (drop c env.line) 0 false ≡ slice_index_or env.line c false
line_left env c = get_or-drop c env.line 0 false ∙ ap (λ n. slice_index_or env.line n false) (add-zero c)

-- the first step of a run
only_step : (m : Description) (addresses : List ℕ) (at : ℕ
    → ℕ) (env : Environment) (start : MachineState) (k : ℕ) (steps : Stepped)
    → IsDescribedRun m addresses at env start k steps → k ≡ 0 → steps ≡ before_steps start
only_step m addresses at env start k steps IsDescribedRun.begins same = refl
only_step m addresses at env start k steps (IsDescribedRun.steps i c before described comes) same = absurd (omega arith)

first_step : (m : Description) (addresses : List ℕ) (at : ℕ
    → ℕ) (env : Environment) (start : MachineState) (k : ℕ) (steps : Stepped)
    → IsDescribedRun m addresses at env start k steps → k ≡ 1 → steps ≡ with_step m env 0 (before_steps start)
first_step m addresses at env start k steps IsDescribedRun.begins same = absurd (omega arith)
first_step m addresses at env start k steps (IsDescribedRun.steps i c before described comes) same =
    let none : i ≡ 0 = omega arith in
    let here = only_step m addresses at env start i before described none in
    let zero_at : c ≡ 0 = once addresses at i 0 c 0 comes IsBoundary.first none in
    ap₂ (λ n s. with_step m env n s) zero_at here

pub one_step : (m : Description) (addresses : List ℕ) (at : ℕ
    → ℕ) (env : Environment) (start : MachineState) (steps : Stepped)
    → IsDescribedRun m addresses at env start 1 steps → steps ≡ with_step m env 0 (before_steps start)
one_step m addresses at env start steps described = first_step m addresses at env start 1 steps described refl
