-- What is left of an environment, without its waits.
use Rattle.std.proofs.Common.{◌≡◌, ℕ, ◌+◌, List, refl, sym, ap, ◌∙◌, arith, drop}
use Rattle.mw_board.specs.declared.parts.BoardParts.{BoardParts}
use Rattle.mw_cycle.specs.State.{BoardState}
use Rattle.mw_cycle.specs.SteadyEnvironment.{rest_at as steady_rest_at}
use Rattle.mw_cycle.specs.Environment.{Environment, rest_at}
use Rattle.mw_cycle.specs.Run.{run_of_clocks, clocks_for, is_wait}
use Rattle.mw_cycle.specs.Thinned.{without_from, was_wait, thinned, place_of}
use Rattle.mw_cycle.specs.RunLaws.{RestsAreThinned}
use Rattle.mw_cycle.proofs.Clocks.{clocks_are}
use Rattle.mw_cycle.proofs.Entries.{left_behind, left_alike}
use Rattle.mw_cycle.proofs.Further.{clocks_further, wait_further}
use Rattle.mw_cycle.proofs.Thinning.{cycles_left}

-- a clock of what is left of a run is a wait where it is one of the whole
waits_further : (board : BoardParts) (store : List ℕ) (env : Environment) (start : BoardState) (n m : ℕ)
    → (let first = run_of_clocks board store env start n in
    was_wait board store env start (n + m) ≡ was_wait board store (rest_at env first.clock) first.state m)
waits_further board store env start n m =
    let first = run_of_clocks board store env start n in
    ap (is_wait board store env) (clocks_further board store env start n m)
    ∙ wait_further board store env first (run_of_clocks board store (rest_at env first.clock) first.state m)

-- a list of what is left
list_thinned : {A : Type 0} (board : BoardParts) (store : List ℕ) (env : Environment) (start : BoardState) (n : ℕ)
    (xs : List A)
    → (let first = run_of_clocks board store env start n in
    without_from (was_wait board store (rest_at env first.clock) first.state) 0 (drop first.clock.clocks xs)
    ≡ drop first.clock.cycle (without_from (was_wait board store env start) 0 xs))
list_thinned board store env start n xs =
    let first = run_of_clocks board store env start n in
    let waits = was_wait board store env start in
    let others = was_wait board store (rest_at env first.clock) first.state in
    let place : 0 + n ≡ n = omega arith in
    ap (λ at. without_from others 0 (drop at xs)) (clocks_are board store env start n)
    ∙ sym (left_alike waits others n 0 (drop n xs) (λ i.
    let number : 0 + i ≡ i = omega arith in
    waits_further board store env start n i ∙ ap others (sym number)))
    ∙ ap (λ from. without_from waits from (drop n xs)) (sym place)
    ∙ sym (left_behind waits 0 xs n)
    ∙ ap (λ at. drop at (without_from waits 0 xs)) (sym (cycles_left board store env start n))

pub clocks_rest : (board : BoardParts) (store : List ℕ) (env : Environment) (start : BoardState) (n : ℕ)
    → (let run = run_of_clocks board store env start n in
    thinned board store (rest_at env run.clock) run.state
    ≡ steady_rest_at (thinned board store env start) (place_of run.clock))
clocks_rest board store env start n =
    rw (list_thinned board store env start n env.line, list_thinned board store env start n env.noise) refl

pub rests_are_thinned : RestsAreThinned
rests_are_thinned board store env start n = clocks_rest board store env start (clocks_for board store env start n)
