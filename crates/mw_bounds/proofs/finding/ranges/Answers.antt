use Rattle.std.proofs.Common.{◌≡◌, ◌∙◌, List, [], ◌∷◌, ap, length, subst, sym, arith}
use Rattle.std.proofs.lemmas.List.{length-append, length-map}
use Rattle.mw_rel.specs.Seen.{boundary_of}
use Rattle.mw_rel.specs.Views.{job_of}
use Rattle.mw_fork.proofs.OneMore.{each_with_one_more}
use Rattle.mw_bounds.specs.declared.range.Range.{Range}
use Rattle.mw_bounds.specs.Answers.{AreFound, IsFoundAt}
use Rattle.mw_bounds.proofs.finding.ranges.Goals as goal

pub loop-boundary-preserved : goal.loop-boundary-preserved
loop-boundary-preserved g c =
    let was = c.loop-boundary.invariant in
    let range = c.in_ok-range.field-0 in
    rw c.in_ok-push.ensures.items (record {
      are = each_with_one_more (λ k r. IsFoundAt (job_of c.args.job.now) k c.args.budget r) c.loop-boundary.ranges.items
          c.loop-boundary.boundary range was.are was.count c.in_ok-range.ensures.found;
      count = omega (arith, was.count, length-append c.loop-boundary.ranges.items (range ∷ []));
    })

pub returns-clause-found : goal.returns-clause-found
returns-clause-found g c =
    let job = job_of c.args.job.now in
    let ranges = c.loop-boundary.ranges.items in
    let found = c.loop-boundary.invariant in
    let last : c.loop-boundary.boundary ≡ length c.boundaries-boundary-end.result.now =
    omega (arith, c.loop-boundary-test.false, c.loop-boundary.auto.boundary-end) in
    let count = found.count ∙ last ∙ sym (length-map c.boundaries-boundary-end.result.now boundary_of)
    ∙ ap length c.boundaries-boundary-end.ensures in
    subst (λ (all : List Range). AreFound job c.args.budget all) (sym c.from_vec.ensures)
    (record { count = count; each = found.are })
