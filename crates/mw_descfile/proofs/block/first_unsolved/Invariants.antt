use Rattle.std.proofs.Common.{◌≡◌, [], drop, map, take}
use Rattle.std.specs.Prelude.{None}
use Rattle.mw_base.specs.FirstFaults.{first_in}
use Rattle.mw_descfile.specs.Boundaries.{unsolved}
use Rattle.mw_descfile.specs.RelationViews.{given_seen}
use Rattle.mw_descfile.proofs.block.first_unsolved.Given as goal

abbrev pub invariant-loop-place : goal.invariant-loop-place
invariant-loop-place l =
    first_in l.first (unsolved (map given_seen l.lines) (take l.place (map given_seen l.lines))
    (drop l.place (map given_seen l.lines)))
    ≡ first_in None (unsolved (map given_seen l.lines) [] (map given_seen l.lines))
