use Rattle.std.proofs.Common.{◌≡◌, map, drop, ◌==◌}
use Rattle.std.specs.List.{list_any}
use Rattle.mw_rel.proofs.rules.has_number.Given as goal

abbrev pub invariant-loop-item : goal.invariant-loop-item
invariant-loop-item g l =
    list_any (λ other. other == l.number) (map g.T.Numbered.item_number (drop l.item-index l.items))
    ≡ list_any (λ other. other == l.number) (map g.T.Numbered.item_number l.items)
