use Rattle.std.proofs.Common.{◌≡◌, ◌∙◌, List, [], ◌∷◌, ap, length, subst, sym, arith}
use Rattle.std.proofs.lemmas.List.{length-append, length-map}
use Rattle.std.proofs.lemmas.Result.{err_from_is_err_and}
use Rattle.mw_rel.specs.Seen.{boundary_of}
use Rattle.mw_rel.specs.Views.{job_of}
use Rattle.mw_fork.proofs.OneMore.{each_with_one_more}
use Rattle.mw_check.specs.declared.verdict.Summary.{Summary}
use Rattle.mw_check.specs.Searched.{IsSearched}
use Rattle.mw_check.specs.Verdict.{IsYes}
use Rattle.mw_check.proofs.Searching.{all_within, certified, none_before, summaries_are}
use Rattle.mw_check.proofs.certification.search_all.Goals as goal

pub returns-in_err-summary-clause-stops : goal.returns-in_err-summary-clause-stops
returns-in_err-summary-clause-stops g c =
    let error = err_from_is_err_and c.from_residual.result
    c.from_residual.ensures.1 in
    let was = c.loop-boundary.invariant in
    rw error.1 (rw (sym error.2) at (c.in_err-summary.ensures.stops
    (none_before (job_of c.args.job.now) c.args.budget c.loop-boundary.summaries.items c.loop-boundary.boundary
    was.searched was.count)))

pub loop-boundary-preserved : goal.loop-boundary-preserved
loop-boundary-preserved g c =
    let was = c.loop-boundary.invariant in
    rw c.in_ok-push-in-Continue.ensures.items (record {
      searched = each_with_one_more (λ k s. IsSearched (job_of c.args.job.now) k c.args.budget s)
          c.loop-boundary.summaries.items c.loop-boundary.boundary c.in-Continue.summary was.searched was.count
          (rw c.in-Continue.is at c.in_ok-summary.ensures.ends);
      count = omega (arith, was.count, length-append c.loop-boundary.summaries.items (c.in-Continue.summary ∷ []));
    })

pub returns-in-Break-clause-is : goal.returns-in-Break-clause-is
returns-in-Break-clause-is g c =
    let was = c.loop-boundary.invariant in
    (rw c.in-Break.is at c.in_ok-summary.ensures.ends)
    (none_before (job_of c.args.job.now) c.args.budget c.loop-boundary.summaries.items c.loop-boundary.boundary
    was.searched was.count)

pub returns-clause-is : goal.returns-clause-is
returns-clause-is g c =
    let job = job_of c.args.job.now in
    let budget = c.args.budget in
    let summaries = c.loop-boundary.summaries.items in
    let found = c.loop-boundary.invariant in
    let last : c.loop-boundary.boundary ≡ length c.boundaries-boundary-end.result.now =
    omega (arith, c.loop-boundary-test.false, c.loop-boundary.auto.boundary-end) in
    let count = found.count ∙ last ∙ sym (length-map c.boundaries-boundary-end.result.now boundary_of)
    ∙ ap length c.boundaries-boundary-end.ensures in
    subst (λ (all : List Summary). IsYes job budget all) (sym c.from_vec.ensures) (record {
      certified = certified job budget summaries c.args.job.now.is_job found.searched count;
      true_summaries = summaries_are job budget summaries found.searched count;
      within = all_within job budget summaries found.searched count;
    })
