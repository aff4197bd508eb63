-- Runs with waits go on from the place that they have reached.
use Rattle.std.proofs.Common.{◌≡◌, ℕ, zero, suc, ◌+◌, ◌<◌, ◌≤◌, ◌-◌, List, [], ◌++◌, Bool, true, false, cond, Option}
use Rattle.std.proofs.Common.{Some, None, refl, ap, ap₂, sym, ◌∙◌, add-one, add-zero, add_assoc, append_assoc, arith}
use Rattle.std.proofs.Common.{inl, inr}
use Rattle.std.specs.Option.{option_to_list}
use Rattle.std.proofs.lemmas.Bool.{cases_lt}
use Rattle.std.proofs.lemmas.List.{get_or-drop, append-nil}
use Rattle.mw_base.specs.declared.event.Event.{Event}
use Rattle.mw_base.specs.declared.event.Event.TheVariants.{Out, Taken}
use Rattle.mw_board.specs.declared.parts.BoardParts.{BoardParts}
use Rattle.mw_cycle.specs.declared.state.CycleIn.{CycleIn}
use Rattle.mw_cycle.specs.State.{BoardState}
use Rattle.mw_cycle.specs.Cycle.{state_after, nets_of}
use Rattle.mw_cycle.specs.declared.environment.Clock.{Clock}
use Rattle.mw_cycle.specs.Environment.{Environment, given_at, rest_at}
use Rattle.mw_cycle.specs.Environment.{at_start}
use Rattle.mw_cycle.specs.Run.{BoardRun, is_wait, with_wait, with_cycle, clock_after, with_clock}
use Rattle.mw_cycle.specs.Run.{run_of_clocks, run_of, cycles_in, clocks_for, further, then_run}
use Rattle.mw_cycle.specs.RunLaws.{IsLeastFor, ClocksAreOne, RunsGoOn, ClocksGoOn}
use Rattle.mw_cycle.proofs.Clocks.{cycles_come, cycles_more, no_cycle}
use Rattle.mw_cycle.proofs.Lists.{rest_further}

-- ---- one clock

-- what is given at a place of the rest is what the whole gives further on
given_further : (env : Environment) (place by : Clock)
    → given_at (rest_at env place) by ≡ given_at env (further place by)
given_further env place by =
    rw (
      get_or-drop place.clocks env.noise by.clocks 0,
      get_or-drop place.clocks env.line by.clocks false,
      get_or-drop place.taken env.inputs by.taken 0,
    ) refl

-- so is the wait bit
pub wait_further : (board : BoardParts) (store : List ℕ) (env : Environment) (first second : BoardRun)
    → is_wait board store env (then_run first second)
    ≡ is_wait board store (rest_at env first.clock) second
wait_further board store env first second =
    rw (get_or-drop first.clock.clocks env.wait second.clock.clocks false) refl

-- a cycle more, further on
clock_further : (event : Option Event) (place by : Clock)
    → clock_after event (further place by) ≡ further place (clock_after event by)
clock_further (Some (Taken v)) place by =
    rw (add_assoc place.cycle by.cycle 1, add_assoc place.taken by.taken 1, add_assoc place.clocks by.clocks 1) refl
clock_further (Some (Out y)) place by =
    rw (add_assoc place.cycle by.cycle 1, add_assoc place.clocks by.clocks 1) refl
clock_further None place by =
    rw (add_assoc place.cycle by.cycle 1, add_assoc place.clocks by.clocks 1) refl

cycle_further : (board : BoardParts) (store : List ℕ) (env : Environment) (first second : BoardRun)
    → with_cycle board store env (then_run first second)
    ≡ then_run first (with_cycle board store (rest_at env first.clock) second)
cycle_further board store env first second =
    let event : CycleIn → Option Event = λ given. (nets_of board store second.state given).event in
    let longer : CycleIn → BoardRun = λ given. record {
      state = state_after board store second.state given;
      events = (first.events ++ second.events) ++ option_to_list (event given);
      clock = clock_after (event given) (further first.clock second.clock);
    } in
    let given = given_at (rest_at env first.clock) second.clock in
    ap longer (sym (given_further env first.clock second.clock))
    ∙ rw (
      append_assoc first.events second.events (option_to_list (event given)),
      clock_further (event given) first.clock second.clock,
    ) refl

-- a clock more
more_further : (board : BoardParts) (store : List ℕ) (env : Environment) (first second : BoardRun) (wait : Bool)
    → cond wait (with_wait (then_run first second)) (with_cycle board store env (then_run first second))
    ≡ then_run first (cond wait (with_wait second)
    (with_cycle board store (rest_at env first.clock) second))
more_further board store env first second true = rw (add_assoc first.clock.clocks second.clock.clocks 1) refl
more_further board store env first second false = cycle_further board store env first second

-- a clock more of what is left of a run is a clock more of the whole
pub clock_behind : (board : BoardParts) (store : List ℕ) (env : Environment) (first second : BoardRun)
    → with_clock board store env (then_run first second)
    ≡ then_run first (with_clock board store (rest_at env first.clock) second)
unfolding with_clock
clock_behind board store env first second =
    ap (λ wait. cond wait (with_wait (then_run first second))
    (with_cycle board store env (then_run first second))) (wait_further board store env first second)
    ∙ more_further board store env first second (is_wait board store (rest_at env first.clock) second)

-- ---- clocks

-- after no clock more
pub nothing_more : (run : BoardRun)
    → then_run run (record { state = run.state; events = []; clock = at_start }) ≡ run
nothing_more run =
    rw (append-nil run.events, add-zero run.clock.cycle, add-zero run.clock.taken, add-zero run.clock.clocks) refl

-- a run of clocks goes on
pub clocks_further : (board : BoardParts) (store : List ℕ) (env : Environment) (start : BoardState) (n m : ℕ)
    → (let first = run_of_clocks board store env start n in
    run_of_clocks board store env start (n + m)
    ≡ then_run first (run_of_clocks board store (rest_at env first.clock) first.state m))
unfolding run_of_clocks
clocks_further board store env start n zero =
    rw (add-zero n) (sym (nothing_more (run_of_clocks board store env start n)))
clocks_further board store env start n (suc m) =
    let first = run_of_clocks board store env start n in
    let rest = rest_at env first.clock in
    let second = run_of_clocks board store rest first.state m in
    let more : n + suc m ≡ suc (n + m) = omega arith in
    ap (run_of_clocks board store env start) more
    ∙ ap (with_clock board store env) (clocks_further board store env start n m)
    ∙ clock_behind board store env first second

-- ---- cycles

-- and so do its cycles
pub cycles_further : (board : BoardParts) (store : List ℕ) (env : Environment) (start : BoardState) (n m : ℕ)
    → (let first = run_of_clocks board store env start n in
    cycles_in board store env start (n + m)
    ≡ cycles_in board store env start n + cycles_in board store (rest_at env first.clock) first.state m)
cycles_further board store env start n m =
    ap (λ (run : BoardRun). run.clock.cycle) (clocks_further board store env start n m)

-- no clocks but these are the least
one_least : (board : BoardParts) (store : List ℕ) (env : Environment) (start : BoardState) (n a b : ℕ)
    → IsLeastFor board store env start n a → IsLeastFor board store env start n b → b ≤ a
one_least board store env start n a b one other = elim (cases_lt a b) [
  | inl less ↦ (let before = other.least a less in
      let made = one.made in
      absurd (omega arith))
  | inr past ↦ past
]

pub clocks_are_one : ClocksAreOne
clocks_are_one board store env start n clocks least =
    let own = cycles_come board store env start n in
    let below = one_least board store env start n (clocks_for board store env start n) clocks own least in
    let above = one_least board store env start n clocks (clocks_for board store env start n) least own in
    omega arith

-- the least clocks of a run that goes on
least_further : (board : BoardParts) (store : List ℕ) (env : Environment) (start : BoardState) (n m a b : ℕ)
    → IsLeastFor board store env start n a
    → (let first = run_of_clocks board store env start a in
    IsLeastFor board store (rest_at env first.clock) first.state m b
    → IsLeastFor board store env start (n + m) (a + b))
least_further board store env start n m a b first second =
    let cycles = cycles_further board store env start a in
    let here = first.made in
    record {
      made = cycles b ∙ ap₂ (λ x y. x + y) first.made second.made;
      least = λ fewer below. elim (cases_lt fewer a) [
        | inl less ↦ (let before = first.least fewer less in omega arith)
        | inr past ↦ (let number : a + (fewer - a) ≡ fewer = omega arith in
            let before = second.least (fewer - a) (omega arith) in
            let both = cycles (fewer - a) in
            let same = ap (cycles_in board store env start) number in
            omega arith)
      ];
    }

pub runs_go_on : RunsGoOn
runs_go_on board store env start n m =
    let a = clocks_for board store env start n in
    let first = run_of_clocks board store env start a in
    let rest = rest_at env first.clock in
    let b = clocks_for board store rest first.state m in
    let both : a + b ≡ clocks_for board store env start (n + m) =
    clocks_are_one board store env start (n + m) (a + b) (least_further board store env start n m a b
    (cycles_come board store env start n) (cycles_come board store rest first.state m)) in
    ap (run_of_clocks board store env start) (sym both) ∙ clocks_further board store env start a b

-- more clocks make no fewer cycles
no_fewer : (board : BoardParts) (store : List ℕ) (env : Environment) (start : BoardState) (n m : ℕ)
    → n ≤ m → cycles_in board store env start n ≤ cycles_in board store env start m
no_fewer board store env start n m within =
    let number : n + (m - n) ≡ m = omega arith in
    let both = cycles_further board store env start n (m - n) in
    let same = ap (cycles_in board store env start) number in
    omega arith

-- the least clocks of a run that begins with some, and goes on for a cycle at least
least_behind : (board : BoardParts) (store : List ℕ) (env : Environment) (start : BoardState) (a m b : ℕ) → 0 < m
    → (let first = run_of_clocks board store env start a in
    IsLeastFor board store (rest_at env first.clock) first.state m b
    → IsLeastFor board store env start (first.clock.cycle + m) (a + b))
least_behind board store env start a m b some second =
    let cycles = cycles_further board store env start a in
    record {
      made = cycles b ∙ ap (λ x. cycles_in board store env start a + x) second.made;
      least = λ fewer below. elim (cases_lt fewer a) [
        | inl less ↦ (let before = no_fewer board store env start fewer a (omega arith) in omega arith)
        | inr past ↦ (let number : a + (fewer - a) ≡ fewer = omega arith in
            let before = second.least (fewer - a) (omega arith) in
            let both = cycles (fewer - a) in
            let same = ap (cycles_in board store env start) number in
            omega arith)
      ];
    }

pub clocks_go_on : ClocksGoOn
clocks_go_on board store env start clocks m some =
    let first = run_of_clocks board store env start clocks in
    let rest = rest_at env first.clock in
    let more = clocks_for board store rest first.state m in
    let both : clocks + more ≡ clocks_for board store env start (first.clock.cycle + m) =
    clocks_are_one board store env start (first.clock.cycle + m) (clocks + more)
    (least_behind board store env start clocks m more some (cycles_come board store rest first.state m)) in
    ap (run_of_clocks board store env start) (sym both) ∙ clocks_further board store env start clocks more

-- ---- calls that make runs longer

-- before the first cycle nothing has come
pub no_more : (board : BoardParts) (store : List ℕ) (env : Environment) (run : BoardRun)
    → then_run run (run_of board store env run.state 0) ≡ run
unfolding run_of_clocks
no_more board store env run =
    let none = clocks_are_one board store env run.state 0 0 (record {
      made = no_cycle board store env run.state;
      least = λ fewer below. absurd (omega arith);
    }) in
    ap (λ clocks. then_run run (run_of_clocks board store env run.state clocks)) (sym none)
    ∙ nothing_more run

-- a run behind two is one behind the first
pub then_again : (first second third : BoardRun)
    → then_run (then_run first second) third ≡ then_run first (then_run second third)
then_again first second third = rw (
  append_assoc first.events second.events third.events,
  add_assoc first.clock.cycle second.clock.cycle third.clock.cycle,
  add_assoc first.clock.taken second.clock.taken third.clock.taken,
  add_assoc first.clock.clocks second.clock.clocks third.clock.clocks,
) refl

-- cycles behind cycles of a run that goes on
pub cycles_behind : (board : BoardParts) (store : List ℕ) (env : Environment) (first : BoardRun) (n m : ℕ)
    → let before = then_run first (run_of board store (rest_at env first.clock) first.state n) in
    then_run before (run_of board store (rest_at env before.clock) before.state m)
    ≡ then_run first (run_of board store (rest_at env first.clock) first.state (n + m))
cycles_behind board store env first n m =
    let rest = rest_at env first.clock in
    let more = run_of board store rest first.state n in
    ap (λ (e : Environment). then_run (then_run first more) (run_of board store e more.state m))
    (sym (rest_further env first.clock more.clock))
    ∙ then_again first more (run_of board store (rest_at rest more.clock) more.state m)
    ∙ ap (then_run first) (sym (runs_go_on board store rest first.state n m))

-- Clocks that were all waits, and then one that is none, are one cycle.
pub one_cycle : (board : BoardParts) (store : List ℕ) (env : Environment) (start : BoardState) (waits : ℕ)
    → cycles_in board store env start waits ≡ 0 → is_wait board store env (run_of_clocks board store env start waits)
    ≡ false → run_of_clocks board store env start (waits + 1) ≡ run_of board store env start 1
one_cycle board store env start waits none is =
    let last : cycles_in board store env start (waits + 1) ≡ 1 =
    ap (cycles_in board store env start) (add-one waits)
    ∙ cycles_more board store env start waits
    ∙ ap (λ (b : Bool). cond b (cycles_in board store env start waits) (suc (cycles_in board store env start waits))) is
    ∙ ap suc none in
    ap (run_of_clocks board store env start)
    (clocks_are_one board store env start 1 (waits + 1) (record {
      made = last;
      least = λ fewer below.
          (let within = no_fewer board store env start fewer waits (omega (arith, below)) in
          omega (arith, within, none));
    }))
