use Rattle.std.proofs.Common.{◌≡◌, map, drop}
use Rattle.mw_expr.specs.Tree.{view, trees_of}
use Rattle.mw_rel.specs.Lines.{stands_in_one}
use Rattle.mw_rel.proofs.line.+standing.Given as goal

abbrev pub invariant-stands_in_one-loop-part : goal.invariant-stands_in_one-loop-part
invariant-stands_in_one-loop-part l =
    stands_in_one l.element (trees_of (map view (drop l.part-index l.parts))) ≡ stands_in_one l.element
    (trees_of (map view l.parts))
