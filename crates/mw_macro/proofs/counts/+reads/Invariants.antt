use Rattle.std.proofs.Common.{◌≡◌, ◌-◌, map, drop}
use Rattle.mw_expr.specs.Tree.{view, trees_of}
use Rattle.mw_macro.specs.Counts.{reads_in}
use Rattle.mw_macro.proofs.counts.+reads.Given as goal

abbrev pub invariant-reads_left_in-loop-part : goal.invariant-reads_left_in-loop-part
invariant-reads_left_in-loop-part l =
    l.left - reads_in (trees_of (map view (drop l.part-index l.parts)))
    ≡ l.budget - reads_in (trees_of (map view l.parts))
