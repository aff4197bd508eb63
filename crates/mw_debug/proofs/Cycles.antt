-- One cycle from a moment, with the waits before it.
use Rattle.std.proofs.Common.{◌≡◌, ℕ, ◌+◌, ◌≤◌, List, [], Some, None, refl, sym, ap, ◌∙◌, subst, arith}
use Rattle.std.specs.Prelude.{Option}
use Rattle.mw_base.specs.declared.event.Event.{Event}
use Rattle.mw_base.specs.declared.event.Event.TheVariants.{Out, Taken}
use Rattle.mw_board.specs.declared.parts.BoardParts.{BoardParts}
use Rattle.mw_cycle.specs.declared.state.CycleIn.{CycleIn}
use Rattle.mw_cycle.specs.Cycle.{state_after, nets_of}
use Rattle.mw_cycle.specs.Environment.{Environment, rest_at}
use Rattle.mw_cycle.specs.Run.{BoardRun, run_of}
use Rattle.mw_cycle.specs.SteadyEnvironment.{Environment as SteadyEnvironment, at_start, given_at}
use Rattle.mw_cycle.specs.SteadyRun.{BoardRun as SteadyRun, clock_after, longer_run, run_of as steady_run_of}
use Rattle.mw_cycle.specs.State.{BoardState}
use Rattle.mw_cycle.specs.Thinned.{but_clocks, thinned}
use Rattle.mw_cycle.proofs.Thinning.{runs_are_thinned}
use Rattle.mw_sim.specs.Run.{cycles_after, run_at}
use Rattle.mw_debug.specs.Session.{Moment, run_from}

-- the places after the first cycle
first_made : (event : Option Event) → (clock_after event at_start).cycle ≡ 1
first_made (Some (Out y)) = refl
first_made (Some (Taken v)) = refl
first_made None = refl

first_taken : (event : Option Event) → (clock_after event at_start).taken ≤ 1
first_taken (Some (Out y)) = omega arith
first_taken (Some (Taken v)) = omega arith
first_taken None = omega arith

-- a run without waits is one cycle from a state, and takes at most one input
record IsOne (board : BoardParts) (store : List ℕ) (start : BoardState) (run : SteadyRun) : Type 0 where
  given : CycleIn
  state : run.state ≡ state_after board store start given
  cycle : run.clock.cycle ≡ 1
  taken : run.clock.taken ≤ 1

one_steady : (board : BoardParts) (store : List ℕ) (env : SteadyEnvironment) (start : BoardState)
    → IsOne board store start (steady_run_of board store env start 1)
unfolding steady_run_of longer_run
one_steady board store env start = record {
  given = given_at env at_start;
  state = refl;
  cycle = first_made (nets_of board store start (given_at env at_start)).event;
  taken = first_taken (nets_of board store start (given_at env at_start)).event;
}

-- a run is one cycle from a moment, and takes at most one input more
pub record IsCycle (board : BoardParts) (store : List ℕ) (m : Moment) (run : BoardRun) : Type 0 where
  pub given : CycleIn
  pub state : run.state ≡ state_after board store m.state given
  pub cycle : run.clock.cycle ≡ m.clock.cycle + 1
  pub taken : run.clock.taken ≤ m.clock.taken + 1

pub cycle_from : (board : BoardParts) (store : List ℕ) (env : Environment) (m : Moment) (run : BoardRun)
    → run ≡ run_from board store env m → IsCycle board store m run
cycle_from board store env m run is =
    let rest = rest_at env m.clock in
    let one : IsOne board store m.state (but_clocks (run_of board store rest m.state 1)) =
    subst (IsOne board store m.state) (sym (runs_are_thinned board store rest m.state 1))
    (one_steady board store (thinned board store rest m.state) m.state) in
    subst (IsCycle board store m) (sym is) (record {
      given = one.given;
      state = one.state;
      cycle = ap (λ n. m.clock.cycle + n) one.cycle;
      taken = omega (arith, one.taken);
    })

-- a run that begins at a moment without events
pub run_made : (board : BoardParts) (store : List ℕ) (env : Environment) (m : Moment) (run : BoardRun)
    (events : List Event) → events ≡ [] → run ≡ cycles_after board store env (run_at m.state events m.clock) 1
    → run ≡ run_from board store env m
run_made board store env m run events none is =
    is ∙ ap (λ (events : List Event). cycles_after board store env (run_at m.state events m.clock) 1) none
