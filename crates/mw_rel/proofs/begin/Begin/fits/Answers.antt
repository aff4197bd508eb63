use Rattle.std.proofs.Common.{◌≡◌, ◌↔◌, ◌≤◌, length, sym, ap, ◌∙◌, subst}
use Rattle.std.specs.Prelude.{IsTrue}
use Rattle.mw_expr.specs.declared.shape.Shape.{Shape}
use Rattle.mw_expr.specs.Values.{IsImage}
use Rattle.mw_rel.specs.Begin.{Begin}
use Rattle.mw_rel.specs.Completed.{AreGiven}
use Rattle.mw_rel.specs.Free.{is_free, numbered}
use Rattle.mw_rel.specs.Relation.{Boundary}
use Rattle.mw_rel.specs.Seen.{boundary_of}
use Rattle.mw_rel.specs.Views.{job_of}
use Rattle.mw_rel.proofs.Choice.{fits_if}
use Rattle.mw_rel.proofs.Elements.{widths_few}
use Rattle.mw_rel.proofs.begin.Begin.fits.Goals as goal

pub are_given-given-requires : goal.are_given-given-requires
are_given-given-requires c =
    let job = job_of c.args.job.now in
    let widths : c.as_slice-widths.result.now ≡ job.relation.shape.widths =
    c.as_slice-widths.ensures ∙ ap (λ (s : Shape). s.widths) c.shape.ensures in
    record { few = subst (λ xs. length xs ≤ 174) (sym widths) (widths_few job c.args.job.now.is_job) }

pub returns : goal.returns
returns c =
    let job = job_of c.args.job.now in
    let widths : c.as_slice-widths.result.now ≡ job.relation.shape.widths =
    c.as_slice-widths.ensures ∙ ap (λ (s : Shape). s.widths) c.shape.ensures in
    let values : c.as_slice.result.now ≡ c.args.self.now.values =
    c.as_slice.ensures.value ∙ ap (λ (b : Begin). b.values) c.self.view_is in
    let memory : c.as_slice-2.result.now ≡ c.args.self.now.memory =
    c.as_slice-2.ensures.value ∙ ap (λ (b : Begin). b.memory) c.self.view_is in
    fits_if job (numbered job c.args.boundary) c.args.self.now c.are_given-given.result c.is_image-image.result
    (subst (λ (b : Boundary).
    IsTrue c.are_given-given.result ↔ AreGiven (is_free b) c.args.self.now.values job.relation.shape.widths)
    c.boundary-at.ensures
    (subst (λ xs. IsTrue c.are_given-given.result
    ↔ AreGiven (is_free (boundary_of c.boundary-at.result.now)) c.args.self.now.values xs)
    widths
    (subst (λ xs. IsTrue c.are_given-given.result
    ↔ AreGiven (is_free (boundary_of c.boundary-at.result.now)) xs c.as_slice-widths.result.now)
    values c.are_given-given.ensures)))
    (subst (λ xs. IsTrue c.is_image-image.result ↔ IsImage job.relation.shape xs) memory c.is_image-image.ensures)
