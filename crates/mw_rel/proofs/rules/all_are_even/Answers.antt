use Rattle.mw_rel.specs.Relation.{IsFormedBoundary}
use Rattle.mw_rel.specs.Seen.{boundary_of}
use Rattle.mw_rel.proofs.Seen.{each_seen}
use Rattle.mw_rel.proofs.rules.all_are_even.Goals as goal

pub are_even-requires : goal.are_even-requires
are_even-requires c =
    rw c.as_slice.ensures
    (each_seen (IsFormedBoundary c.args.shape.now) boundary_of c.args.boundaries.now c.loop-boundary.boundary-index
    c.boundary-item.result c.requires.boundaries c.loop-boundary-test.true c.boundary-item.is).lines
