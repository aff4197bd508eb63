-- A run with waits is the run without them, over what is left of the lists.
use Rattle.std.proofs.Common.{◌≡◌, ℕ, zero, suc, ◌+◌, ◌++◌, List, Bool, true, cond, Option, Some, None}
use Rattle.std.proofs.Common.{refl, sym, ap, ◌∙◌, subst, ◌-◌, ◌<◌, false, slice_index_or, arith}
use Rattle.std.specs.Option.{option_to_list}
use Rattle.mw_base.specs.declared.event.Event.{Event}
use Rattle.mw_base.specs.declared.event.Event.TheVariants.{Out, Taken}
use Rattle.mw_board.specs.declared.parts.BoardParts.{BoardParts}
use Rattle.mw_cycle.specs.declared.state.CycleIn.{CycleIn}
use Rattle.mw_cycle.specs.State.{BoardState}
use Rattle.mw_cycle.specs.Cycle.{state_after, nets_of}
use Rattle.mw_cycle.specs.SteadyEnvironment.{Environment as SteadyEnvironment, given_at as steady_given_at}
use Rattle.mw_cycle.specs.SteadyRun.{BoardRun as SteadyRun, clock_after as steady_clock_after, longer_run}
use Rattle.mw_cycle.specs.SteadyRun.{run_of as steady_run_of}
use Rattle.mw_cycle.specs.declared.environment.Clock.{Clock}
use Rattle.mw_cycle.specs.Environment.{Environment, given_at}
use Rattle.mw_cycle.specs.Run.{BoardRun, with_wait, with_cycle, clock_after, with_clock, run_of_clocks, cycles_in}
use Rattle.mw_cycle.specs.Run.{clocks_for, line_of_cycle, clock_making, given_to_cycle}
use Rattle.mw_cycle.specs.Thinned.{without_from, was_wait, thinned, place_of, but_clocks}
use Rattle.mw_cycle.specs.RunLaws.{IsLeastFor, RunsAreThinned}
use Rattle.mw_cycle.proofs.Clocks.{no_cycle, cycles_more, clocks_are, cycles_come}
use Rattle.mw_cycle.proofs.Entries.{left, left_more, entry_left}

-- as many cycles were made as clocks were no waits
pub cycles_left : (board : BoardParts) (store : List ℕ) (env : Environment) (start : BoardState) (n : ℕ)
    → cycles_in board store env start n ≡ left (was_wait board store env start) 0 n
unfolding run_of_clocks
cycles_left board store env start zero = refl
cycles_left board store env start (suc n) =
    let waits = was_wait board store env start in
    let number : 0 + n ≡ n = omega arith in
    let last : left waits 0 (suc n) ≡ cond (waits n) (left waits 0 n) (suc (left waits 0 n)) =
    left_more waits 0 n ∙ rw number refl in
    cycles_more board store env start n
    ∙ ap (λ cycles. cond (waits n) cycles (suc cycles)) (cycles_left board store env start n)
    ∙ sym last

-- an entry that is no wait's stands in the thinned list at the number of the cycle
entry_thinned : {A : Type 0} (board : BoardParts) (store : List ℕ) (env : Environment) (start : BoardState) (n : ℕ)
    (xs : List A) (other : A) → was_wait board store env start n ≡ false
    → slice_index_or (without_from (was_wait board store env start) 0 xs) (cycles_in board store env start n) other
    ≡ slice_index_or xs n other
entry_thinned board store env start n xs other no_wait =
    let waits = was_wait board store env start in
    let number : 0 + n ≡ n = omega arith in
    ap (λ at. slice_index_or (without_from waits 0 xs) at other) (cycles_left board store env start n)
    ∙ entry_left waits 0 xs n other (ap waits number ∙ no_wait)

-- a clock that is no wait gives its cycle what the thinned lists have for it
pub given_thinned : (board : BoardParts) (store : List ℕ) (env : Environment) (start : BoardState) (n : ℕ)
    → was_wait board store env start n ≡ false
    → (let run = run_of_clocks board store env start n in
    given_at env run.clock ≡ steady_given_at (thinned board store env start) (place_of run.clock))
given_thinned board store env start n no_wait =
    rw (
      clocks_are board store env start n,
      entry_thinned board store env start n env.noise 0 no_wait,
      entry_thinned board store env start n env.line false no_wait,
    ) refl

-- a cycle more
clock_but : (event : Option Event) (clock : Clock)
    → place_of (clock_after event clock) ≡ steady_clock_after event (place_of clock)
clock_but (Some (Taken v)) clock = refl
clock_but (Some (Out y)) clock = refl
clock_but None clock = refl

cycle_but : (board : BoardParts) (store : List ℕ) (env : Environment) (thin : SteadyEnvironment) (run : BoardRun)
    → given_at env run.clock ≡ steady_given_at thin (place_of run.clock)
    → but_clocks (with_cycle board store env run) ≡ longer_run board store thin (but_clocks run)
unfolding longer_run
cycle_but board store env thin run same =
    let event : CycleIn → Option Event = λ given. (nets_of board store run.state given).event in
    let longer : CycleIn → SteadyRun = λ given. record {
      state = state_after board store run.state given;
      events = run.events ++ option_to_list (event given);
      clock = steady_clock_after (event given) (place_of run.clock);
    } in
    rw (clock_but (event (given_at env run.clock)) run.clock) (ap longer same)

-- a clock more
clock_thinned : (board : BoardParts) (store : List ℕ) (env : Environment) (start : BoardState) (n : ℕ)
    (wait : Bool)
    → (let run = run_of_clocks board store env start n in let thin = thinned board store env start in
    was_wait board store env start n ≡ wait
    → but_clocks run ≡ steady_run_of board store thin start run.clock.cycle
    → but_clocks (cond wait (with_wait run) (with_cycle board store env run))
    ≡ steady_run_of board store thin start (cond wait run.clock.cycle (suc run.clock.cycle)))
unfolding steady_run_of
clock_thinned board store env start n true is before = before
clock_thinned board store env start n false is before =
    let run = run_of_clocks board store env start n in
    let thin = thinned board store env start in
    cycle_but board store env thin run (given_thinned board store env start n is)
    ∙ ap (longer_run board store thin) before

-- after any number of clocks the run is that of the cycles made
pub clocks_thinned : (board : BoardParts) (store : List ℕ) (env : Environment) (start : BoardState) (n : ℕ)
    → but_clocks (run_of_clocks board store env start n)
    ≡ steady_run_of board store (thinned board store env start) start (cycles_in board store env start n)
unfolding run_of_clocks with_clock steady_run_of
clocks_thinned board store env start zero = refl
clocks_thinned board store env start (suc n) =
    clock_thinned board store env start n (was_wait board store env start n) refl
    (clocks_thinned board store env start n)
    ∙ ap (steady_run_of board store (thinned board store env start) start) (sym (cycles_more board store env start n))

pub runs_are_thinned : RunsAreThinned
runs_are_thinned board store env start n =
    let clocks = clocks_for board store env start n in
    clocks_thinned board store env start clocks
    ∙ ap (steady_run_of board store (thinned board store env start) start) (cycles_come board store env start n).made

-- ---- the clock that makes a cycle

-- a clock that makes a cycle is no wait
makes : (n before : ℕ) (wait : Bool) → cond wait before (suc before) ≡ n + 1 → before < n + 1
    → (wait ≡ false) × (before ≡ n)
makes n before true made less = absurd (omega arith)
makes n before false made less = (refl, omega arith)

-- the clock with this number makes cycle n
record Makes (board : BoardParts) (store : List ℕ) (env : Environment) (start : BoardState)
    (n clock : ℕ) : Type 0 where
  no_wait : was_wait board store env start clock ≡ false
  cycles : cycles_in board store env start clock ≡ n

makes_last : (board : BoardParts) (store : List ℕ) (env : Environment) (start : BoardState) (n clocks : ℕ)
    → IsLeastFor board store env start (n + 1) clocks → Makes board store env start n (clocks - 1)
makes_last board store env start n zero least =
    let none = no_cycle board store env start in
    let made = least.made in
    absurd (omega arith)
makes_last board store env start n (suc clock) least =
    let number : suc clock - 1 ≡ clock = omega arith in
    let is = makes n (cycles_in board store env start clock) (was_wait board store env start clock)
    (sym (cycles_more board store env start clock) ∙ least.made)
    (least.least clock (omega arith)) in
    subst (Makes board store env start n) (sym number) (record { no_wait = is.0; cycles = is.1 })

making : (board : BoardParts) (store : List ℕ) (env : Environment) (start : BoardState) (n : ℕ)
    → Makes board store env start n (clock_making board store env start n)
making board store env start n =
    makes_last board store env start n (clocks_for board store env start (n + 1))
    (cycles_come board store env start (n + 1))

-- the line of a cycle is what the thinned line has for it
pub line_thinned : (board : BoardParts) (store : List ℕ) (env : Environment) (start : BoardState) (n : ℕ)
    → line_of_cycle board store env start n ≡ slice_index_or (thinned board store env start).line n false
line_thinned board store env start n =
    let last = making board store env start n in
    sym (entry_thinned board store env start (clock_making board store env start n) env.line false last.no_wait)
    ∙ ap (λ at. slice_index_or (thinned board store env start).line at false) last.cycles

-- and so is all that a cycle is given
pub cycle_given : (board : BoardParts) (store : List ℕ) (env : Environment) (start : BoardState) (n : ℕ)
    → (let thin = thinned board store env start in
    given_to_cycle board store env start n ≡ steady_given_at thin (steady_run_of board store thin start n).clock)
cycle_given board store env start n =
    let thin = thinned board store env start in
    let clock = clock_making board store env start n in
    let last = making board store env start n in
    given_thinned board store env start clock last.no_wait
    ∙ ap (λ (run : SteadyRun). steady_given_at thin run.clock) (clocks_thinned board store env start clock
    ∙ ap (steady_run_of board store thin start) last.cycles)
