use Rattle.std.proofs.Common.{◌≡◌, length}
use Rattle.mw_rel.specs.Views.{job_of}
use Rattle.mw_check.specs.Searched.{AreSearched}
use Rattle.mw_check.proofs.certification.search_all.Given as goal

-- the boundaries before this one were searched
abbrev pub invariant-loop-boundary : goal.invariant-loop-boundary
invariant-loop-boundary g l = record {
  searched : AreSearched (job_of l.job) l.fn.budget l.summaries.items;
  count : length l.summaries.items ≡ l.boundary;
}
