use Rattle.std.proofs.Common.{◌≡◌, length}
use Rattle.mw_rel.specs.Views.{job_of}
use Rattle.mw_bounds.specs.Answers.{AreOfFirst}
use Rattle.mw_bounds.proofs.finding.ranges.Given as goal

-- there are the ranges of the boundaries before this one
abbrev pub invariant-loop-boundary : goal.invariant-loop-boundary
invariant-loop-boundary g l = record {
  are : AreOfFirst (job_of l.job) l.fn.budget l.ranges.items;
  count : length l.ranges.items ≡ l.boundary;
}
