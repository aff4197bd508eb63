use Rattle.std.proofs.Common.{◌≡◌, ℕ, ◌<◌}
use Rattle.mw_cycle.specs.Elements.{element}
use Rattle.mw_cycle.specs.State.{Fits}
use Rattle.mw_term.specs.Assigned.{given_by}
use Rattle.mw_twin.specs.Assigned.{values_under}
use Rattle.mw_twin.proofs.starts.set_elements.Given as goal

abbrev pub invariant-loop-number : goal.invariant-loop-number
invariant-loop-number l = record {
  fits : Fits l.board l.state;
  set : (n : ℕ) → n < l.number
      → element l.board l.state n ≡ values_under l.space.terms (given_by l.given) l.terms n;
}
