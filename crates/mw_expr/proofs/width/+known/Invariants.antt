use Rattle.std.proofs.Common.{◌≡◌, length, map, drop}
use Rattle.mw_expr.specs.Tree.{view, trees_of}
use Rattle.mw_expr.specs.Widths.{are_known}
use Rattle.mw_expr.proofs.width.+known.Given as goal

abbrev pub invariant-are_known-loop-part : goal.invariant-are_known-loop-part
invariant-are_known-loop-part l = record {
  told : are_known (length l.shape.widths) (trees_of (map view (drop l.part-index l.parts))) ≡ are_known
      (length l.shape.widths) (trees_of (map view l.parts));
}
