use Rattle.std.proofs.Common.{◌≡◌, ap, subst, sym, ◌∙◌, slice_index}
use Rattle.mw_term.specs.Table.{IsWidth}
use Rattle.mw_expr.specs.declared.shape.Shape.{Shape}
use Rattle.mw_rel.specs.Views.{job_of}
use Rattle.mw_course.proofs.Boundaries.{wide_at}
use Rattle.mw_course.proofs.elements.width_of.Goals as goal

pub returns-clause-range : goal.returns-clause-range
returns-clause-range c =
    let job = job_of c.args.job.now in
    let same : c.as_slice.result.now ≡ job.relation.shape.widths =
    c.as_slice.ensures ∙ ap (λ (s : Shape). s.widths) c.shape-shape.ensures in
    subst (λ xs. IsWidth (slice_index xs c.args.number)) (sym same)
    (wide_at job c.args.number c.args.job.now.is_job c.requires)
