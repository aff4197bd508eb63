-- Runs that never wait, and boundaries, go on from the place that they have reached.
use Rattle.std.proofs.Common.{◌≡◌, ℕ, zero, suc, ◌+◌, List, [], ◌++◌, Option, Some, None}
use Rattle.std.proofs.Common.{false, refl, ap, sym, ◌∙◌, subst}
use Rattle.std.proofs.Common.{add-zero, add_assoc, ◌-◌, append_assoc, arith}
use Rattle.std.specs.Option.{option_to_list}
use Rattle.std.proofs.lemmas.List.{get_or-drop, append-nil}
use Rattle.mw_base.specs.declared.event.Event.{Event}
use Rattle.mw_base.specs.declared.event.Event.TheVariants.{Out, Taken}
use Rattle.mw_board.specs.declared.parts.BoardParts.{BoardParts}
use Rattle.mw_cycle.specs.declared.state.CycleIn.{CycleIn}
use Rattle.mw_cycle.specs.State.{BoardState}
use Rattle.mw_cycle.specs.Cycle.{state_after, nets_of}
use Rattle.mw_cycle.specs.SteadyEnvironment.{Environment, Clock, at_start, given_at, rest_at}
use Rattle.mw_cycle.specs.SteadyRun.{BoardRun, clock_after, longer_run, run_of, further, then_run}
use Rattle.mw_cycle.specs.Boundary.{is_named, IsNextBoundary, IsBoundary}

-- what is given at a place of the rest is what the whole gives further on
pub given_further : (env : Environment) (place by : Clock)
    → given_at (rest_at env place) by ≡ given_at env (further place by)
given_further env place by =
    rw (
      get_or-drop place.cycle env.noise by.cycle 0,
      get_or-drop place.cycle env.line by.cycle false,
      get_or-drop place.taken env.inputs by.taken 0,
    ) refl

-- a cycle more, further on
clock_further : (event : Option Event) (place by : Clock)
    → further place (clock_after event by) ≡ clock_after event (further place by)
clock_further (Some (Taken v)) place by =
    rw (sym (add_assoc place.cycle by.cycle 1), sym (add_assoc place.taken by.taken 1)) refl
clock_further (Some (Out y)) place by = rw (sym (add_assoc place.cycle by.cycle 1)) refl
clock_further None place by = rw (sym (add_assoc place.cycle by.cycle 1)) refl

-- one event more, or none, after both runs
joined : (state : BoardState) (event : Option Event) (first second : BoardRun)
    → (let run : BoardRun = record {
      state = state;
      events = (first.events ++ second.events) ++ option_to_list event;
      clock = clock_after event (further first.clock second.clock);
    } in
    run)
    ≡ then_run first (record {
      state = state;
      events = second.events ++ option_to_list event;
      clock = clock_after event second.clock;
    })
joined state event first second = rw (
  append_assoc first.events second.events (option_to_list event),
  sym (clock_further event first.clock second.clock),
) refl

-- a cycle more of what is left of a run is a cycle more of the whole
pub longer_further : (board : BoardParts) (store : List ℕ) (env : Environment) (first second : BoardRun)
    → longer_run board store env (then_run first second)
    ≡ then_run first (longer_run board store (rest_at env first.clock) second)
unfolding longer_run
longer_further board store env first second =
    let event : CycleIn → Option Event = λ given. (nets_of board store second.state given).event in
    let run : CycleIn → BoardRun = λ given. record {
      state = state_after board store second.state given;
      events = (first.events ++ second.events) ++ option_to_list (event given);
      clock = clock_after (event given) (further first.clock second.clock);
    } in
    let given = given_at (rest_at env first.clock) second.clock in
    ap run (sym (given_further env first.clock second.clock))
    ∙ joined (state_after board store second.state given) (event given) first second

-- after no cycle more
pub no_further : (run : BoardRun) → then_run run (record { state = run.state; events = []; clock = at_start }) ≡ run
no_further run = rw (append-nil run.events, add-zero run.clock.cycle, add-zero run.clock.taken) refl

-- a run goes on
pub run_further : (board : BoardParts) (store : List ℕ) (env : Environment) (start : BoardState) (n m : ℕ)
    → run_of board store env start (n + m) ≡ then_run (run_of board store env start n)
    (run_of board store (rest_at env (run_of board store env start n).clock) (run_of board store env start n).state m)
unfolding run_of
run_further board store env start n zero = rw (add-zero n) (sym (no_further (run_of board store env start n)))
run_further board store env start n (suc m) =
    let first = run_of board store env start n in
    let more : n + suc m ≡ suc (n + m) = omega arith in
    ap (run_of board store env start) more
    ∙ ap (longer_run board store env) (run_further board store env start n m)
    ∙ longer_further board store env first (run_of board store (rest_at env first.clock) first.state m)

-- the next boundary of what is left of a run is the next of the whole
next_further : (addresses : List ℕ) (at : ℕ → ℕ) (c d e : ℕ)
    → IsNextBoundary addresses (λ n. at (c + n)) d e → IsNextBoundary addresses at (c + d) (c + e)
next_further addresses at c d e next = record {
  later = omega (arith, next.later);
  named = next.named;
  least = λ n after before.
      let same : c + (n - c) ≡ n = omega arith in
      subst (λ x. is_named addresses (at x) ≡ false) same (next.least (n - c) (omega arith) (omega arith));
}

-- boundaries go on
pub boundary_further : (addresses : List ℕ) (at : ℕ → ℕ) (k c j d : ℕ)
    → IsBoundary addresses at k c → IsBoundary addresses (λ n. at (c + n)) j d → IsBoundary addresses at (k + j) (c + d)
boundary_further addresses at k c j d from IsBoundary.first =
    subst (λ x. IsBoundary addresses at x (c + 0)) (sym (add-zero k))
    (subst (λ x. IsBoundary addresses at k x) (sym (add-zero c)) from)
boundary_further addresses at k c j d from (IsBoundary.next i b e before is_next) =
    subst (λ x. IsBoundary addresses at x (c + e)) (add_assoc k i 1) (IsBoundary.next (k + i) (c + b) (c + e)
    (boundary_further addresses at k c i b from before) (next_further addresses at c b e is_next))
