use Rattle.std.proofs.Common.{sym, subst}
use Rattle.mw_dd.specs.Bounds.{AreBounds}
use Rattle.mw_dd.proofs.bounds.Bounds.look.Goals as goal

pub returns : goal.returns
returns c = record {
  right = c.learn.ensures c.args.nodes.now c.in_ok-count.ensures.bound
      (subst (AreBounds c.args.nodes.now) (sym c.in_ok-count.ensures.same) c.requires.right);
}
