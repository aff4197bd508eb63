use Rattle.std.proofs.Common.{◌≡◌}
use Rattle.mw_expr.specs.Placed.{placed, opened}
use Rattle.mw_expr.specs.Grammar.{reduced}
use Rattle.mw_expr.specs.declared.placed.Open.{size-Open}
use Rattle.mw_expr.proofs.reductions.reduce.Given as goal

abbrev pub invariant-loop-step : goal.invariant-loop-step
invariant-loop-step l = record {
  told : reduced l.least (placed l.operand.tree) (opened l.operand.below) ≡ reduced l.least (placed l.fn.tree)
      (opened l.fn.pending);
}

abbrev pub decreases-loop-step : goal.decreases-loop-step
decreases-loop-step l = size-Open l.operand.below
