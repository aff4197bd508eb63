-- The inputs that both sides of a case take: the events of each have those of one list, one after another.
use Rattle.std.proofs.Common.{◌≡◌, ℕ, zero, suc, ◌+◌, List, [], ◌∷◌, ◌++◌, Bool, true, false, Some, None, slice_index}
use Rattle.std.proofs.Common.{refl, ap, append-nil, sym, subst, ◌∙◌, arith}
use Rattle.std.specs.Prelude.{if◌then◌else◌, ◌==◌}
use Rattle.std.specs.Option.{option_to_list}
use Rattle.mw_base.specs.declared.event.Event.{Event}
use Rattle.mw_base.specs.declared.event.Event.TheVariants.{Out, Taken}
use Rattle.mw_board.specs.declared.bit.DFrom.{DFrom}
use Rattle.mw_board.specs.declared.bit.DFrom.TheVariants as sources
use Rattle.mw_board.specs.declared.parts.BoardParts.{BoardParts}
use Rattle.mw_cycle.specs.Cycle.{event_from, nets_of}
use Rattle.mw_cycle.specs.declared.state.CycleIn.{CycleIn}
use Rattle.mw_cycle.specs.SteadyEnvironment.{Environment, given_at}
use Rattle.mw_cycle.specs.SteadyRun.{longer_run, run_of}
use Rattle.mw_cycle.specs.State.{BoardState}
use Rattle.mw_expr.specs.declared.shape.Shape.{Shape}
use Rattle.mw_expr.specs.Values.{value}
use Rattle.mw_macro.specs.DescribedStep.{Now, after, after_all, begun, step_of}
use Rattle.mw_macro.specs.Laws.{inputs_in}
use Rattle.mw_macro.specs.Machine.{Description}
use Rattle.mw_macro.specs.State.{MachineState}
use Rattle.mw_macro.specs.Statements.{Act, assign, write, put, take_in, choose, Acts, nothing, next}
use Rattle.mw_rel.proofs.Runs.{inputs_are}

-- what is taken are the inputs from a number on
abbrev pub TakeFrom : (inputs : List ℕ) → (number : ℕ) → List Event → Type 0
TakeFrom inputs number [] = Unit {0}
TakeFrom inputs number (Out v ∷ rest) = TakeFrom inputs number rest
TakeFrom inputs number (Taken v ∷ rest) = (v ≡ slice_index inputs number) × TakeFrom inputs (number + 1) rest

-- so it is with one more, where that is the next
one_more : (inputs : List ℕ) (number : ℕ) (es : List Event) (e : Event) → TakeFrom inputs number es
    → TakeFrom inputs (number + inputs_in es) (e ∷ []) → TakeFrom inputs number (es ++ e ∷ [])
one_more inputs number [] e take is =
    let same : number + inputs_in [] ≡ number = omega arith in
    subst (λ n. TakeFrom inputs n (e ∷ [])) same is
one_more inputs number (Out v ∷ rest) e take is = one_more inputs number rest e take is
one_more inputs number (Taken v ∷ rest) e take is =
    let same : number + inputs_in (Taken v ∷ rest) ≡ number + 1 + inputs_in rest = omega arith in (
      take.0,
      one_more inputs (number + 1) rest e take.1 (subst (λ n. TakeFrom inputs n (e ∷ [])) same is),
    )

-- ---- the board

-- a cycle takes the input that is offered
shown_takes : (out : Bool) (y : ℕ) (inputs : List ℕ) (number : ℕ) (es : List Event) → TakeFrom inputs number es
    → TakeFrom inputs number (es ++ option_to_list (if out then Some (Out y) else None))
shown_takes true y inputs number es take = one_more inputs number es (Out y) take tt
shown_takes false y inputs number es take = subst (TakeFrom inputs number) (sym (append-nil es)) take

cycle_takes : (from : DFrom) (out : Bool) (y : ℕ) (given : CycleIn) (inputs : List ℕ) (number : ℕ) (es : List Event)
    → given.input ≡ slice_index inputs (number + inputs_in es) → TakeFrom inputs number es
    → TakeFrom inputs number (es ++ option_to_list (event_from from out y given))
cycle_takes sources.Input out y given inputs number es is take =
    one_more inputs number es (Taken given.input) take (is, tt)
cycle_takes sources.Zero out y given inputs number es is take = shown_takes out y inputs number es take
cycle_takes sources.Memory out y given inputs number es is take = shown_takes out y inputs number es take
cycle_takes sources.Ir out y given inputs number es is take = shown_takes out y inputs number es take
cycle_takes sources.Mar out y given inputs number es is take = shown_takes out y inputs number es take
cycle_takes (sources.Field n) out y given inputs number es is take = shown_takes out y inputs number es take
cycle_takes (sources.Flip n) out y given inputs number es is take = shown_takes out y inputs number es take

-- a run takes the inputs of its environment
pub run_takes : (board : BoardParts) (store : List ℕ) (env : Environment) (start : BoardState) (n : ℕ)
    → TakeFrom env.inputs 0 (run_of board store env start n).events
unfolding run_of longer_run nets_of
run_takes board store env start zero = tt
run_takes board store env start (suc n) =
    let run = run_of board store env start n in
    let count : run.clock.taken ≡ 0 + inputs_in run.events = omega (arith, inputs_are board store env start n) in
    cycle_takes _ _ _ (given_at env run.clock) env.inputs 0 run.events (ap (slice_index env.inputs) count)
    (run_takes board store env start n)

-- ---- the described machine

-- it has taken as many inputs as its events say, and these
record Takes (inputs : List ℕ) (x : Now) : Type 0 where
  take : TakeFrom inputs 0 x.events
  count : x.taken ≡ inputs_in x.events

either_takes : (test : Bool) (inputs : List ℕ) (a b : Now) → Takes inputs a → Takes inputs b
    → Takes inputs (if test then a else b)
either_takes true inputs a b one other = one
either_takes false inputs a b one other = other

put_in : (es : List Event) (v : ℕ) → inputs_in (es ++ Out v ∷ []) ≡ inputs_in es
put_in [] v = refl
put_in (Out u ∷ rest) v = put_in rest v
put_in (Taken u ∷ rest) v = omega (arith, put_in rest v)

taken_in : (es : List Event) (v : ℕ) → inputs_in (es ++ Taken v ∷ []) ≡ inputs_in es + 1
taken_in [] v = omega arith
taken_in (Out u ∷ rest) v = taken_in rest v
taken_in (Taken u ∷ rest) v = omega (arith, taken_in rest v)

mutual
  act_takes : (s : Shape) (inputs : List ℕ) (act : Act) (x : Now) → Takes inputs x
      → Takes inputs (after s inputs 0 act x)
  act_takes s inputs (assign target e) x is = record { take = is.take; count = is.count }
  act_takes s inputs (write address e) x is = record { take = is.take; count = is.count }
  act_takes s inputs (put e) x is =
      let v = value s x.values x.memory e in record {
        take = one_more inputs 0 x.events (Out v) is.take tt;
        count = is.count ∙ sym (put_in x.events v);
      }
  act_takes s inputs (take_in target) x is =
      let v = slice_index inputs (0 + x.taken) in record {
        take = one_more inputs 0 x.events (Taken v) is.take (ap (λ n. slice_index inputs (0 + n)) is.count, tt);
        count = omega (arith, is.count, taken_in x.events v);
      }
  act_takes s inputs (choose condition one other) x is =
      either_takes (value s x.values x.memory condition == 1) inputs _ _ (acts_take s inputs one x is)
      (acts_take s inputs other x is)

  acts_take : (s : Shape) (inputs : List ℕ) (acts : Acts) (x : Now) → Takes inputs x
      → Takes inputs (after_all s inputs 0 acts x)
  acts_take s inputs nothing x is = is
  acts_take s inputs (next act rest) x is =
      acts_take s inputs rest (after s inputs 0 act x) (act_takes s inputs act x is)

-- a step takes the inputs from the first on
pub step_takes : (m : Description) (state : MachineState) (request : Bool) (inputs : List ℕ)
    → TakeFrom inputs 0 (step_of m state request inputs 0).events
unfolding step_of
step_takes m state request inputs =
    (acts_take m.shape inputs m.acts (begun m state request) (record { take = tt; count = refl })).take
