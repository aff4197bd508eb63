use Rattle.std.proofs.Common.{not, ap, ◌∙◌}
use Rattle.mw_rel.specs.Free.{is_free}
use Rattle.mw_rel.specs.Relation.{Boundary}
use Rattle.mw_rel.proofs.free_elements.free.Goals as goal

pub returns : goal.returns
returns c =
    ap not (rw c.as_slice.ensures at c.is_left.ensures)
    ∙ ap (λ (b : Boundary). is_free b c.args.element) c.boundary.ensures
