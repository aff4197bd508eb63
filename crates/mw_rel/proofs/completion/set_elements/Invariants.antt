use Rattle.std.proofs.Common.{◌≡◌, ℕ, ◌<◌, slice_index}
use Rattle.mw_cycle.specs.Elements.{element}
use Rattle.mw_cycle.specs.State as boards
use Rattle.mw_rel.proofs.completion.set_elements.Given as goal

abbrev pub invariant-loop-number : goal.invariant-loop-number
invariant-loop-number l = record {
  fits : boards.Fits l.board l.state;
  set : (e : ℕ) → e < l.number → element l.board l.state e ≡ slice_index l.values e;
}
