use Rattle.std.proofs.Common.{◌≡◌, ◌≤◌, ◌+◌, ◌∷◌, drop, rules}
use Rattle.std.proofs.lemmas.List.Elements.{All-cons}
use Rattle.mw_base.proofs.Lists.{next}
use Rattle.mw_rel.specs.Relation.{Boundary, IsFormedBoundary}
use Rattle.mw_rel.specs.Seen.{boundary_of, boundaries_of}
use Rattle.mw_callrows.proofs.calls.plain.are_formed.Goals as goal

pub loop-boundary-preserved : goal.loop-boundary-preserved
loop-boundary-preserved c =
    let boundaries = c.args.boundaries.now in
    let i = c.loop-boundary.boundary-index in
    let boundary = c.boundary-item.result in
    let rest = drop (i + 1) boundaries in
    let first : drop i boundaries ≡ boundary ∷ rest =
    next boundaries i boundary c.loop-boundary-test.true c.boundary-item.is in
    let formed : IsFormedBoundary c.args.shape.now (boundary_of boundary) = search rules in
    let pointer : boundary.sp ≤ c.args.depth = search rules in
    record {
      formed = λ all. c.loop-boundary.invariant.formed (rw first (All-cons (IsFormedBoundary c.args.shape.now)
          (boundary_of boundary) (boundaries_of rest) formed all));
      pointers = λ all. c.loop-boundary.invariant.pointers (rw first (All-cons (λ (b : Boundary). b.sp ≤ c.args.depth)
          (boundary_of boundary) (boundaries_of rest) pointer all));
    }
