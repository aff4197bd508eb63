-- Clocks, and the cycles that they make.
use Rattle.std.proofs.Common.{◌≡◌, ℕ, zero, suc, ◌+◌, ◌<◌, ◌≤◌, List, length, Bool, true, false, cond, ◌==◌, ◌&&◌}
use Rattle.std.proofs.Common.{Option, Some, None, refl, sym, ap, ◌∙◌, add-zero, add-one, arith, inl, inr, subst}
use Rattle.std.specs.Prelude.{slice_index_or}
use Rattle.std.proofs.lemmas.Bool.{cases_lt}
use Rattle.std.proofs.lemmas.Bool.Decides.{nat_tests}
use Rattle.std.proofs.lemmas.List.{get_or_past}
use Rattle.mw_base.specs.declared.event.Event.{Event}
use Rattle.mw_base.specs.declared.event.Event.TheVariants.{Out, Taken}
use Rattle.mw_board.specs.declared.parts.BoardParts.{BoardParts}
use Rattle.mw_cycle.specs.State.{BoardState}
use Rattle.mw_cycle.specs.Cycle.{nets_of, microword_at, uses_memory}
use Rattle.mw_cycle.specs.declared.environment.Clock.{Clock}
use Rattle.mw_cycle.specs.Environment.{Environment, given_at}
use Rattle.mw_cycle.specs.Run.{BoardRun, with_wait, with_cycle, clock_after, with_clock}
use Rattle.mw_cycle.specs.Run.{run_of_clocks, cycles_in, least_from}
use Rattle.mw_cycle.specs.Thinned.{was_wait}
use Rattle.mw_cycle.specs.RunLaws.{CyclesCome, ClocksAreBounded}

-- ---- the least number

-- n is met first at one of the numbers
record IsFirst (count : ℕ → ℕ) (n at : ℕ) : Type 0 where
  made : count at ≡ n
  least : (fewer : ℕ) → fewer < at → count fewer < n

-- what holds below a number, and of it, holds below the next
below_next : (count : ℕ → ℕ) (n from : ℕ) → ((fewer : ℕ) → fewer < from → count fewer < n) → count from < n
    → (fewer : ℕ) → fewer < from + 1 → count fewer < n
below_next count n from before here fewer below = elim (cases_lt fewer from) [
  | inl less ↦ before fewer less
  | inr past ↦ (let same : fewer ≡ from = omega arith in
      subst (λ x. count x < n) (sym same) here)
]

-- the test of two numbers
same_number : (a b : ℕ) → (a == b) ≡ true → a ≡ b
same_number a b same = grind (arith, nat_tests)

less_number : (a b : ℕ) → (a == b) ≡ false → a ≤ b → a < b
less_number a b other within = grind (arith, nat_tests)

-- it is met at the first of the numbers, or behind it
met_at : (count : ℕ → ℕ) (n from rest : ℕ) (b : Bool) → (count from == n) ≡ b
    → ((fewer : ℕ) → fewer < from → count fewer < n) → ((count from == n) ≡ false → IsFirst count n rest)
    → IsFirst count n (cond b from rest)
met_at count n from rest true here before behind =
    record { made = same_number (count from) n here; least = before }
met_at count n from rest false here before behind = behind here

-- a count that goes up by one at most, and was below n so far, meets n before it is above
met : (count : ℕ → ℕ) (n from more : ℕ) → ((at : ℕ) → count (suc at) ≤ suc (count at))
    → ((fewer : ℕ) → fewer < from → count fewer < n) → count from ≤ n → n ≤ count (from + more)
    → IsFirst count n (least_from (λ at. count at == n) from more)
met count n from zero up before here end =
    let there : count (from + 0) ≡ count from = ap count (add-zero from) in
    record { made = omega arith; least = before }
met count n from (suc more) up before here end =
    met_at count n from (least_from (λ at. count at == n) (from + 1) more) (count from == n) refl before
    (λ other.
    let less = less_number (count from) n other here in
    let next : count (from + 1) ≤ suc (count from) = rw (add-one from) (up from) in
    let last : count (from + 1 + more) ≡ count (from + suc more) = ap count (omega arith) in
    met count n (from + 1) more up (below_next count n from before less) (omega arith) (omega arith))

-- the least number comes within the numbers
at_within : (b : Bool) (from rest more : ℕ) → rest ≤ from + 1 + more → cond b from rest ≤ from + suc more
at_within true from rest more within = omega arith
at_within false from rest more within = omega arith

least_within : (test : ℕ → Bool) (from more : ℕ) → least_from test from more ≤ from + more
least_within test from zero = omega arith
least_within test from (suc more) =
    at_within (test from) from (least_from test (from + 1) more) more (least_within test (from + 1) more)

-- ---- how many cycles clocks make

cycle_made : (event : Option Event) (clock : Clock) → (clock_after event clock).cycle ≡ suc clock.cycle
cycle_made (Some (Taken v)) clock = add-one clock.cycle
cycle_made (Some (Out y)) clock = add-one clock.cycle
cycle_made None clock = add-one clock.cycle

clock_made : (event : Option Event) (clock : Clock) → (clock_after event clock).clocks ≡ suc clock.clocks
clock_made (Some (Taken v)) clock = add-one clock.clocks
clock_made (Some (Out y)) clock = add-one clock.clocks
clock_made None clock = add-one clock.clocks

cycles_with : (board : BoardParts) (store : List ℕ) (env : Environment) (run : BoardRun) (wait : Bool)
    → (cond wait (with_wait run) (with_cycle board store env run)).clock.cycle
    ≡ cond wait run.clock.cycle (suc run.clock.cycle)
cycles_with board store env run true = refl
cycles_with board store env run false =
    cycle_made (nets_of board store run.state (given_at env run.clock)).event run.clock

clocks_with : (board : BoardParts) (store : List ℕ) (env : Environment) (run : BoardRun) (wait : Bool)
    → (cond wait (with_wait run) (with_cycle board store env run)).clock.clocks ≡ suc run.clock.clocks
clocks_with board store env run true = add-one run.clock.clocks
clocks_with board store env run false =
    clock_made (nets_of board store run.state (given_at env run.clock)).event run.clock

-- a clock more makes a cycle, or none where it was a wait
pub cycles_more : (board : BoardParts) (store : List ℕ) (env : Environment) (start : BoardState) (n : ℕ)
    → cycles_in board store env start (suc n)
    ≡ cond (was_wait board store env start n) (cycles_in board store env start n)
    (suc (cycles_in board store env start n))
unfolding run_of_clocks with_clock
cycles_more board store env start n =
    cycles_with board store env (run_of_clocks board store env start n) (was_wait board store env start n)

-- so many clocks are as many
pub clocks_are : (board : BoardParts) (store : List ℕ) (env : Environment) (start : BoardState) (n : ℕ)
    → (run_of_clocks board store env start n).clock.clocks ≡ n
unfolding run_of_clocks with_clock
clocks_are board store env start zero = refl
clocks_are board store env start (suc n) =
    clocks_with board store env (run_of_clocks board store env start n) (was_wait board store env start n)
    ∙ ap suc (clocks_are board store env start n)

-- no clock past the end of the wait list is a wait
past_waits : (board : BoardParts) (store : List ℕ) (env : Environment) (start : BoardState) (n : ℕ)
    → length env.wait ≤ n → was_wait board store env start n ≡ false
past_waits board store env start n past =
    let run = run_of_clocks board store env start n in
    let bit : slice_index_or env.wait run.clock.clocks false ≡ false =
    ap (λ at. slice_index_or env.wait at false) (clocks_are board store env start n)
    ∙ get_or_past env.wait n false past in
    ap (λ b. b && uses_memory (microword_at board store run.state)) bit

up_by_one : (before : ℕ) (wait : Bool) → cond wait before (suc before) ≤ suc before
up_by_one before true = omega arith
up_by_one before false = omega arith

-- all clocks but those of the wait list make a cycle
cycles_pass : (board : BoardParts) (store : List ℕ) (env : Environment) (start : BoardState) (n : ℕ)
    → n ≤ cycles_in board store env start (length env.wait + n)
cycles_pass board store env start zero = omega arith
cycles_pass board store env start (suc n) =
    let clocks = length env.wait + n in
    let no_wait = past_waits board store env start clocks (omega arith) in
    let more : cycles_in board store env start (suc clocks) ≡ suc (cycles_in board store env start clocks) =
    cycles_more board store env start clocks ∙ rw no_wait refl in
    let next : length env.wait + suc n ≡ suc clocks = omega arith in
    rw next (omega (arith, more, cycles_pass board store env start n))

-- before the first clock no cycle is made
pub no_cycle : (board : BoardParts) (store : List ℕ) (env : Environment) (start : BoardState)
    → cycles_in board store env start 0 ≡ 0
unfolding run_of_clocks
no_cycle board store env start = refl

pub cycles_come : CyclesCome
cycles_come board store env start n =
    let none = no_cycle board store env start in
    let behind : 0 + (length env.wait + n) ≡ length env.wait + n = omega arith in
    let first = met (cycles_in board store env start) n 0 (length env.wait + n)
    (λ at. rw (cycles_more board store env start at)
    (up_by_one (cycles_in board store env start at) (was_wait board store env start at)))
    (λ fewer below. absurd (omega arith))
    (omega arith)
    (rw behind (cycles_pass board store env start n)) in
    record { made = first.made; least = first.least }

pub clocks_are_bounded : ClocksAreBounded
clocks_are_bounded board store env start n =
    let within = least_within (λ clocks. cycles_in board store env start clocks == n) 0 (length env.wait + n) in
    omega arith
