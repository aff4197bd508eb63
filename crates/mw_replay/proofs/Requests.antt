-- The line of the clock that makes the next cycle of a run.
use Rattle.std.proofs.Common.{◌≡◌, ℕ, ◌+◌, List, false, drop, slice_index_or, sym, ap, ◌∙◌, arith}
use Rattle.std.proofs.lemmas.List.{get_or-drop}
use Rattle.mw_board.specs.declared.parts.BoardParts.{BoardParts}
use Rattle.mw_cycle.specs.Environment.{Environment, given_at, rest_at}
use Rattle.mw_cycle.specs.Run.{BoardRun, clock_making, clocks_for, is_wait, line_of_cycle, run_of_clocks}
use Rattle.mw_cycle.proofs.Clocks.{clocks_are}
use Rattle.mw_cycle.proofs.Further.{one_cycle, wait_further}
use Rattle.mw_sim.proofs.Runs.{HasWaited}

-- behind waits, the first clock that is none makes the next cycle
pub request_is : (board : BoardParts) (store : List ℕ) (env : Environment) (first now : BoardRun)
    → HasWaited board store env first now → is_wait board store env now ≡ false
    → (given_at env now.clock).line ≡ line_of_cycle board store (rest_at env first.clock) first.state 0
request_is board store env first now has none =
    let rest = rest_at env first.clock in
    let n = has.waits in
    let last : is_wait board store rest (run_of_clocks board store rest first.state n) ≡ false =
    sym (wait_further board store env first (run_of_clocks board store rest first.state n))
    ∙ ap (is_wait board store env) (sym has.is) ∙ none in
    let clocks : n + 1 ≡ clocks_for board store rest first.state 1 =
    sym (clocks_are board store rest first.state (n + 1))
    ∙ ap (λ (run : BoardRun). run.clock.clocks) (one_cycle board store rest first.state n has.none last)
    ∙ clocks_are board store rest first.state (clocks_for board store rest first.state 1) in
    let making : n ≡ clock_making board store rest first.state 0 = omega (arith, clocks) in
    let place : now.clock.clocks ≡ first.clock.clocks + n =
    ap (λ (run : BoardRun). run.clock.clocks) has.is
    ∙ ap (λ clocks. first.clock.clocks + clocks) (clocks_are board store rest first.state n) in
    ap (λ clocks. slice_index_or env.line clocks false) place
    ∙ sym (get_or-drop first.clock.clocks env.line n false)
    ∙ ap (λ clock. slice_index_or (drop first.clock.clocks env.line) clock false) making
