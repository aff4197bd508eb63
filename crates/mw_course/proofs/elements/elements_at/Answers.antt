use Rattle.std.proofs.Common.{◌≡◌, ap, subst, sym, ◌∙◌}
use Rattle.std.specs.Prelude.{All}
use Rattle.mw_symmem.specs.Memory.{Memory}
use Rattle.mw_rel.specs.Free.{numbered}
use Rattle.mw_rel.specs.Relation.{Boundary}
use Rattle.mw_rel.specs.Rules.{IsLineOf}
use Rattle.mw_rel.specs.Seen.{lines_of}
use Rattle.mw_rel.specs.Views.{job_of}
use Rattle.mw_rel.proofs.Relations.{solved_at}
use Rattle.mw_course.proofs.Boundaries.{elements_with}
use Rattle.mw_course.proofs.Related.{seen_count}
use Rattle.mw_course.proofs.StartListed.{start_listed}
use Rattle.mw_course.proofs.Valued.{ground_begun, unwritten_still}
use Rattle.mw_course.proofs.elements.elements_at.Goals as goal

pub relate-requires-clause-lines_of : goal.relate-requires-clause-lines_of
relate-requires-clause-lines_of c =
    let job = job_of c.args.job.now in
    let P = IsLineOf job.relation.shape in
    subst (λ xs. All P (lines_of xs)) (sym c.as_slice-lines.ensures)
    (subst (λ (b : Boundary). All P b.lines) (sym c.boundary.ensures)
    (solved_at job c.args.boundary c.args.job.now.is_job c.requires.boundary).lines)

pub returns-clause-elements : goal.returns-clause-elements
returns-clause-elements c =
    elements_with (job_of c.args.job.now) _ _ _ _ _ c.in_ok-relate.ensures.own c.in_ok-relate.ensures.wide

pub returns-clause-stands : goal.returns-clause-stands
returns-clause-stands c =
    let job = job_of c.args.job.now in
    let number = c.args.boundary in
    let first = c.in_ok-own.ensures in
    let after = c.in_ok-relate.ensures in
    let here : lines_of c.as_slice-lines.result.now ≡ (numbered job number).lines =
    ap lines_of c.as_slice-lines.ensures ∙ ap (λ (b : Boundary). b.lines) c.boundary.ensures in
    let none = ap (λ (m : Memory). m.machine) first.memory ∙ c.in_ok-space.ensures.unwritten.1 in
    ground_begun job number _ (lines_of c.as_slice-lines.result.now) _ _ _ _ _ _ c.in_ok-own.own.items _ _
    c.args.job.now.is_job c.requires.boundary first.elements first.own none c.deref-2.ensures.value here
    (seen_count c.as_slice-lines.result.now) after.related after.own after.wide c.count.ensures.own

pub returns-clause-unwritten : goal.returns-clause-unwritten
returns-clause-unwritten c =
    let same = c.in_ok-own.ensures.memory in
    let none = c.in_ok-space.ensures.unwritten in
    unwritten_still _ _ _ _ _ _ _ _ _ _ c.in_ok-relate.ensures.related (
      ap (λ (m : Memory). m.board) same ∙ none.0,
      ap (λ (m : Memory). m.machine) same ∙ none.1,
    )

pub returns-clause-listed : goal.returns-clause-listed
returns-clause-listed c =
    let job = job_of c.args.job.now in
    let here : lines_of c.as_slice-lines.result.now ≡ (numbered job c.args.boundary).lines =
    ap lines_of c.as_slice-lines.ensures ∙ ap (λ (b : Boundary). b.lines) c.boundary.ensures in
    start_listed job.relation.shape (numbered job c.args.boundary) _ _ _ _ _ _ _ c.in_ok-space.ensures.listed
    c.in_ok-own.ensures.listed c.deref-2.ensures.value here c.in_ok-relate.ensures.listed
