use Rattle.std.proofs.Common.{◌≡◌, map, drop}
use Rattle.mw_rel.specs.Rules.{are_once}
use Rattle.mw_rel.proofs.rules.are_once.Given as goal

abbrev pub invariant-loop-i : goal.invariant-loop-i
invariant-loop-i g l = are_once (map g.T.Numbered.item_number (drop l.i l.items)) ≡ are_once
    (map g.T.Numbered.item_number l.items)
