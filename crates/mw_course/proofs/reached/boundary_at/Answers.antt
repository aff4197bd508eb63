use Rattle.std.proofs.Common.{◌≡◌, List, subst}
use Rattle.std.specs.Prelude.{◌==◌, IfSome, None, Some, find}
use Rattle.mw_rel.specs.Relation.{Boundary}
use Rattle.mw_rel.specs.Seen.{boundary_of}
use Rattle.mw_course.proofs.reached.boundary_at.Goals as goal

pub returns-clause-some : goal.returns-clause-some
returns-clause-some c =
    subst (λ (bs : List Boundary). IfSome c.found_at.result
    (λ b. find (λ (x : Boundary). x.address == c.args.address) bs ≡ Some (boundary_of b.now))) c.boundaries.ensures
    c.found_at.ensures.some

pub returns-clause-none : goal.returns-clause-none
returns-clause-none c =
    subst (λ (bs : List Boundary). c.found_at.result ≡ None
    → find (λ (x : Boundary). x.address == c.args.address) bs ≡ None) c.boundaries.ensures c.found_at.ensures.none
