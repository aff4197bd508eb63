-- Runs that calls make longer, clock by clock and cycle by cycle.
use Rattle.std.proofs.Common.{◌≡◌, ℕ, suc, ◌+◌, ◌-◌, ◌<◌, ◌≤◌, ◌^◌, ◌⊎◌, inl, inr, List, Bool, true, false, cond, find}
use Rattle.std.proofs.Common.{Some, None, option_map, refl, ap, sym, ◌∙◌, add-one, arith}
use Rattle.std.specs.Prelude.{if◌then◌else◌, ◌&&◌, Option}
use Rattle.mw_board.specs.declared.parts.BoardParts.{BoardParts}
use Rattle.mw_cycle.specs.Environment.{Environment, rest_at}
use Rattle.mw_cycle.specs.Run.{BoardRun, cycles_in, is_wait, run_of, run_of_clocks, then_run, with_clock, with_cycle}
use Rattle.mw_cycle.specs.Run.{with_wait}
use Rattle.mw_cycle.specs.Boundary.{is_named, numbers, first_boundary}
use Rattle.mw_cycle.proofs.Clocks.{cycles_more, no_cycle}
use Rattle.mw_cycle.proofs.Further.{clock_behind, cycles_behind, no_more, nothing_more, one_cycle, wait_further}
use Rattle.mw_cycle.proofs.Segments.{at, reached, gone_on, late}
use Rattle.mw_sim.specs.Run.{AreFew, cycles_after, segment_after}

-- ---- clocks

-- a run, and then so many clocks, all of them waits
pub record HasWaited (board : BoardParts) (store : List ℕ) (env : Environment) (first now : BoardRun) : Type 0 where
  pub waits : ℕ
  pub is : now ≡ then_run first (run_of_clocks board store (rest_at env first.clock) first.state waits)
  pub none : cycles_in board store (rest_at env first.clock) first.state waits ≡ 0

-- behind no clock
no_clock_more : (board : BoardParts) (store : List ℕ) (env : Environment) (run : BoardRun)
    → then_run run (run_of_clocks board store env run.state 0) ≡ run
unfolding run_of_clocks
no_clock_more board store env run = nothing_more run

-- no clock yet
pub not_yet : (board : BoardParts) (store : List ℕ) (env : Environment) (run : BoardRun)
    → HasWaited board store env run run
not_yet board store env run = record {
  waits = 0;
  is = sym (no_clock_more board store (rest_at env run.clock) run);
  none = no_cycle board store (rest_at env run.clock) run.state;
}

-- one clock more of a run that is a first one and then so many clocks
clock_more : (board : BoardParts) (store : List ℕ) (env : Environment) (first now : BoardRun) (n : ℕ)
    → now ≡ then_run first (run_of_clocks board store (rest_at env first.clock) first.state n)
    → with_clock board store env now
    ≡ then_run first (run_of_clocks board store (rest_at env first.clock) first.state (n + 1))
unfolding run_of_clocks
clock_more board store env first now n was =
    let second = run_of_clocks board store (rest_at env first.clock) first.state n in
    ap (with_clock board store env) was ∙ clock_behind board store env first second
    ∙ ap (λ m. then_run first (run_of_clocks board store (rest_at env first.clock) first.state m)) (sym (add-one n))

-- whether it is a wait
clock_waits : (board : BoardParts) (store : List ℕ) (env : Environment) (first now : BoardRun) (n : ℕ)
    → now ≡ then_run first (run_of_clocks board store (rest_at env first.clock) first.state n)
    → is_wait board store (rest_at env first.clock) (run_of_clocks board store (rest_at env first.clock) first.state n)
    ≡ is_wait board store env now
clock_waits board store env first now n was =
    sym (wait_further board store env first (run_of_clocks board store (rest_at env first.clock) first.state n))
    ∙ ap (is_wait board store env) (sym was)

-- one wait more
pub wait_more : (board : BoardParts) (store : List ℕ) (env : Environment) (first now next : BoardRun)
    → HasWaited board store env first now → is_wait board store env now ≡ true → next ≡ with_wait now
    → HasWaited board store env first next
unfolding with_clock
wait_more board store env first now next has waits is =
    let rest = rest_at env first.clock in
    let n = has.waits in
    record {
      waits = n + 1;
      is = is ∙ sym (ap (λ (b : Bool). if b then with_wait now else with_cycle board store env now) waits)
          ∙ clock_more board store env first now n has.is;
      none = ap (cycles_in board store rest first.state) (add-one n)
          ∙ cycles_more board store rest first.state n
          ∙ ap (λ (b : Bool). cond b (cycles_in board store rest first.state n)
          (suc (cycles_in board store rest first.state n)))
          (clock_waits board store env first now n has.is ∙ waits)
          ∙ has.none;
    }

-- behind the waits, one cycle
pub cycle_made : (board : BoardParts) (store : List ℕ) (env : Environment) (first now next : BoardRun)
    → HasWaited board store env first now → is_wait board store env now ≡ false
    → next ≡ with_cycle board store env now → next ≡ cycles_after board store env first 1
unfolding with_clock
cycle_made board store env first now next has waits is =
    let rest = rest_at env first.clock in
    is ∙ sym (ap (λ (b : Bool). if b then with_wait now else with_cycle board store env now) waits)
    ∙ clock_more board store env first now has.waits has.is
    ∙ ap (then_run first) (one_cycle board store rest first.state has.waits has.none
    (clock_waits board store env first now has.waits has.is ∙ waits))

-- ---- what a clock answers

-- the first of two tests that both hold
pub both_first : (a b : Bool) → (a && b) ≡ true → a ≡ true
both_first true b is = refl
both_first false b is = is

-- a test with which nothing would be there fails where something is
pub not_so : {A : Type 0} (test : Bool) (answer : Option A) (there : A) → answer ≡ Some there
    → (test ≡ true → answer ≡ None) → test ≡ false
not_so true answer there is none =
    let both : Some there ≡ None = sym is ∙ none refl in absurd cc
not_so false answer there is none = refl

-- ---- few clocks

-- a wait bit within the wait list leaves the clocks few
pub few_waited : (clocks reached : ℕ) → AreFew clocks 0 reached → reached < 2 ^ 63 → AreFew clocks 0 (reached + 1)
few_waited clocks reached few early = inr (omega (arith, early))

-- as does a cycle
pub few_more : (clocks cycles reached next : ℕ) → AreFew clocks cycles reached → AreFew reached 1 next
    → AreFew clocks (cycles + 1) next
few_more clocks cycles reached next (inl few) (inl more) = inl (omega (arith, few, more))
few_more clocks cycles reached next (inr few) (inl more) = inr (omega (arith, few, more))
few_more clocks cycles reached next few (inr more) = inr (omega (arith, more))

-- few clocks beside cycles that were few
pub few_past : (clocks cycles reached most : ℕ) → AreFew clocks cycles reached → clocks ≤ 2 ^ 63 + most
    → reached ≤ 2 ^ 63 + (most + cycles)
few_past clocks cycles reached most (inl few) before = omega (arith, few, before)
few_past clocks cycles reached most (inr few) before = omega (arith, few)

-- few clocks stay within 64 bits
pub few_within : (clocks cycles reached : ℕ) → AreFew clocks cycles reached → clocks + cycles + 1 < 2 ^ 64
    → cycles < 2 ^ 32 → reached + 1 < 2 ^ 64
few_within clocks cycles reached (inl few) within most = omega (arith, few, within)
few_within clocks cycles reached (inr few) within most = omega (arith, few, most)

-- fewer cycles leave them as few as more
pub few_of_fewer : (clocks fewer cycles reached : ℕ) → AreFew clocks fewer reached → fewer ≤ cycles
    → AreFew clocks cycles reached
few_of_fewer clocks fewer cycles reached (inl few) within = inl (omega (arith, few, within))
few_of_fewer clocks fewer cycles reached (inr few) within = inr (omega (arith, few, within))

-- ---- cycles

-- no cycle yet
pub none_yet : (board : BoardParts) (store : List ℕ) (env : Environment) (run : BoardRun)
    → run ≡ cycles_after board store env run 0
none_yet board store env run = sym (no_more board store (rest_at env run.clock) run)

-- one cycle more
pub one_more : (board : BoardParts) (store : List ℕ) (env : Environment) (first before after : BoardRun) (n : ℕ)
    → before ≡ cycles_after board store env first n → after ≡ cycles_after board store env before 1 → after
    ≡ cycles_after board store env first (n + 1)
one_more board store env first before after n was longer =
    longer ∙ ap (λ (run : BoardRun). cycles_after board store env run 1) was
    ∙ cycles_behind board store env first n 1

-- the boundary that is first within the limit is one of the cycle starts after the first n
abbrev pub IsLeft : BoardParts → List ℕ → Environment → BoardRun → List ℕ → ℕ → ℕ → Type 0
IsLeft board store env first addresses limit n =
    let place = at board store (rest_at env first.clock) first.state in
    first_boundary addresses place limit ≡ find (λ n. is_named addresses (place n)) (numbers (n + 1) (limit - n))

-- a run that stands at a boundary for the first time has ended its segment
pub ended : (board : BoardParts) (store : List ℕ) (env : Environment) (first after : BoardRun)
    (addresses : List ℕ) (limit n : ℕ)
    → IsLeft board store env first addresses limit n → n < limit
    → after ≡ cycles_after board store env first (n + 1) → is_named addresses after.state.at ≡ true
    → segment_after board store env first addresses limit ≡ Some after
ended board store env first after addresses limit n left more is named =
    let rest = rest_at env first.clock in
    let here : is_named addresses (run_of board store rest first.state (n + 1)).state.at ≡ true =
    ap (λ (run : BoardRun). is_named addresses run.state.at) (sym is) ∙ named in
    ap (option_map (then_run first)) (reached board store rest first.state addresses limit n
    (run_of board store rest first.state (n + 1)) left more refl here)
    ∙ ap Some (sym is)

-- one that doesn't goes on
pub goes_on : (board : BoardParts) (store : List ℕ) (env : Environment) (first after : BoardRun)
    (addresses : List ℕ) (limit n : ℕ)
    → IsLeft board store env first addresses limit n → n < limit
    → after ≡ cycles_after board store env first (n + 1) → is_named addresses after.state.at ≡ false
    → IsLeft board store env first addresses limit (n + 1)
goes_on board store env first after addresses limit n left more is other =
    let rest = rest_at env first.clock in
    let here : is_named addresses (run_of board store rest first.state (n + 1)).state.at ≡ false =
    ap (λ (run : BoardRun). is_named addresses run.state.at) (sym is) ∙ other in
    gone_on board store rest first.state addresses limit n (run_of board store rest first.state (n + 1)) left more refl
    here

-- one that has made all its cycles is late
pub is_late : (board : BoardParts) (store : List ℕ) (env : Environment) (first : BoardRun) (addresses : List ℕ)
    (limit n : ℕ)
    → IsLeft board store env first addresses limit n → limit ≤ n → segment_after board store env first addresses limit
    ≡ None
is_late board store env first addresses limit n left done =
    ap (option_map (then_run first)) (late board store (rest_at env first.clock) first.state addresses limit n left
    done)
