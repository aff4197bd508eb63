use Rattle.std.proofs.Common.{◌≡◌, ◌≤◌, Some, map, drop}
use Rattle.mw_expr.specs.Tree.{view, trees_of}
use Rattle.mw_expr.specs.Widths.{count, join_width, added, total_width}
use Rattle.mw_expr.proofs.width.+widths.Given as goal

abbrev pub invariant-joined_width-loop-part : goal.invariant-joined_width-loop-part
invariant-joined_width-loop-part l = record {
  small : l.whole ≤ 32;
  told : join_width (count (trees_of (map view l.parts)))
      (added (Some l.whole) (total_width l.shape (trees_of (map view (drop l.part-index l.parts)))))
      ≡ join_width (count (trees_of (map view l.parts))) (total_width l.shape (trees_of (map view l.parts)));
}
