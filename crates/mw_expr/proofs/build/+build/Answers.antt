use Rattle.mw_expr.proofs.Trees.{plain_all}
use Rattle.mw_expr.proofs.build.+build.Goals as goal

pub build_all-loop-part-init : goal.build_all-loop-part-init
build_all-loop-part-init t c = record {
  small = c.requires.small;
  told = rw c.new-made.ensures.items
      (plain_all c.args.parts.now);
}
