use Rattle.std.proofs.Common.{◌≡◌, drop, map, ◌==◌}
use Rattle.std.specs.List.{list_any}
use Rattle.mw_descfile.specs.Boundaries.{PlacedLine}
use Rattle.mw_descfile.specs.RelationViews.{given_seen}
use Rattle.mw_descfile.proofs.block.is_left.Given as goal

abbrev pub invariant-loop-given : goal.invariant-loop-given
invariant-loop-given l =
    list_any (λ (g : PlacedLine). g.line.left == l.number) (map given_seen (drop l.given-index l.lines))
    ≡ list_any (λ (g : PlacedLine). g.line.left == l.number) (map given_seen l.lines)
