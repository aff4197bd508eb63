-- Runs over environments without waits.
use Rattle.std.proofs.Common.{◌≡◌, ℕ, zero, suc, List, refl, sym, ap, ◌∙◌}
use Rattle.mw_board.specs.declared.parts.BoardParts.{BoardParts}
use Rattle.mw_cycle.specs.SteadyEnvironment.{Environment as SteadyEnvironment}
use Rattle.mw_cycle.specs.State.{BoardState}
use Rattle.mw_cycle.specs.Run.{cycles_in}
use Rattle.mw_cycle.specs.Thinned.{was_wait, never_waiting}
use Rattle.mw_cycle.specs.RunLaws.{NothingIsThinned, ClocksAreCycles}
use Rattle.mw_cycle.proofs.Clocks.{cycles_more, no_cycle}
use Rattle.mw_cycle.proofs.Entries.{all_left}
use Rattle.mw_cycle.proofs.Further.{clocks_are_one}

-- no clock is a wait, so each entry is left
pub nothing_is_thinned : NothingIsThinned
nothing_is_thinned board store env start =
    let waits = was_wait board store (never_waiting env) start in
    rw (all_left waits 0 env.line (λ n. refl), all_left waits 0 env.noise (λ n. refl)) refl

-- each clock makes a cycle
each_makes : (board : BoardParts) (store : List ℕ) (env : SteadyEnvironment) (start : BoardState) (n : ℕ)
    → cycles_in board store (never_waiting env) start n ≡ n
each_makes board store env start zero = no_cycle board store (never_waiting env) start
each_makes board store env start (suc n) =
    cycles_more board store (never_waiting env) start n ∙ ap suc (each_makes board store env start n)

pub clocks_are_cycles : ClocksAreCycles
clocks_are_cycles board store env start n =
    sym (clocks_are_one board store (never_waiting env) start n n (record {
      made = each_makes board store env start n;
      least = λ fewer below. rw (each_makes board store env start fewer) below;
    }))
