use Rattle.std.proofs.Common.{◌≡◌, drop, map}
use Rattle.std.specs.List.{flat_map}
use Rattle.mw_base.specs.FirstFaults.{first_in}
use Rattle.mw_descfile.specs.Boundaries.{used_left}
use Rattle.mw_descfile.specs.RelationViews.{given_seen}
use Rattle.mw_descfile.proofs.block.first_of_uses.Given as goal

abbrev pub invariant-loop-found : goal.invariant-loop-found
invariant-loop-found l = first_in l.first (flat_map (used_left (map given_seen l.all)) (drop l.found-index l.uses))
    ≡ first_in l.fn.before (flat_map (used_left (map given_seen l.all)) l.uses)
