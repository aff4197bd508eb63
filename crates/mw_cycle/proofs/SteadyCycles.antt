-- The decided bits of a run that never waits go on from the place that it has reached.
use Rattle.std.proofs.Common.{◌≡◌, ℕ, zero, suc, ◌+◌, List, ◌++◌, ap, ap₂, sym, ◌∙◌, add-zero, append_assoc, arith}
use Rattle.std.proofs.lemmas.List.{append-nil}
use Rattle.mw_board.specs.declared.parts.BoardParts.{BoardParts}
use Rattle.mw_term.specs.declared.decided.Decided.{Decided}
use Rattle.mw_cycle.specs.Decided.{decided_of}
use Rattle.mw_cycle.specs.SteadyDecided.{bits_of_cycle, bits_of_cycles}
use Rattle.mw_cycle.specs.SteadyEnvironment.{Environment, given_at, rest_at}
use Rattle.mw_cycle.specs.SteadyRun.{BoardRun, run_of}
use Rattle.mw_cycle.specs.State.{BoardState}
use Rattle.mw_cycle.proofs.SteadySuffix.{given_further, run_further}

-- the bits of a cycle further on are those of the cycle of what is left
pub cycle_further : (board : BoardParts) (store : List ℕ) (env : Environment) (start : BoardState) (n m : ℕ)
    → bits_of_cycle board store env start (n + m)
    ≡ bits_of_cycle board store (rest_at env (run_of board store env start n).clock)
    (run_of board store env start n).state m
cycle_further board store env start n m =
    let first = run_of board store env start n in
    let second = run_of board store (rest_at env first.clock) first.state m in
    ap (λ (run : BoardRun). decided_of board store run.state (given_at env run.clock))
    (run_further board store env start n m)
    ∙ ap (decided_of board store second.state) (sym (given_further env first.clock second.clock))

-- the bits of a run go on
pub bits_further : (board : BoardParts) (store : List ℕ) (env : Environment) (start : BoardState) (n m : ℕ)
    → bits_of_cycles board store env start (n + m)
    ≡ bits_of_cycles board store env start n
    ++ bits_of_cycles board store (rest_at env (run_of board store env start n).clock)
    (run_of board store env start n).state m
unfolding bits_of_cycles
bits_further board store env start n zero = rw (add-zero n) (sym (append-nil (bits_of_cycles board store env start n)))
bits_further board store env start n (suc m) =
    let first = run_of board store env start n in
    let more : n + suc m ≡ suc (n + m) = omega arith in
    ap (bits_of_cycles board store env start) more
    ∙ ap₂ (λ (xs ys : List Decided). xs ++ ys) (bits_further board store env start n m)
    (cycle_further board store env start n m)
    ∙ append_assoc (bits_of_cycles board store env start n)
    (bits_of_cycles board store (rest_at env first.clock) first.state m)
    (bits_of_cycle board store (rest_at env first.clock) first.state m)
