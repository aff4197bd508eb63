use Rattle.std.proofs.Common.{◌≡◌, nat_le, map, drop}
use Rattle.mw_expr.specs.Tree.{view, trees_of}
use Rattle.mw_expr.specs.Widths.{deepest}
use Rattle.mw_expr.proofs.width.+depths.Given as goal

abbrev pub invariant-are_within_depth-loop-part : goal.invariant-are_within_depth-loop-part
invariant-are_within_depth-loop-part l = record {
  told : nat_le (deepest (trees_of (map view (drop l.part-index l.parts)))) l.levels ≡ nat_le
      (deepest (trees_of (map view l.parts))) l.levels;
}
