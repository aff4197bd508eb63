use Rattle.std.proofs.Common.{◌≡◌}
use Rattle.mw_cycle.specs.State.{Fits}
use Rattle.mw_sim.specs.Start.{with_values}
use Rattle.mw_sim.proofs.start.set_elements.Given as goal

abbrev pub invariant-loop-number : goal.invariant-loop-number
invariant-loop-number l = record {
  so_far : l.state ≡ with_values l.board l.values l.fn.state l.number;
  fits : Fits l.board l.state;
}
