use Rattle.std.proofs.Common.{◌≡◌}
use Rattle.mw_rel.specs.Views.{job_of}
use Rattle.mw_fork.specs.Forks.{IsForkOf}
use Rattle.mw_callrows.proofs.calls.differs.push_cases.Given as goal

abbrev pub invariant-loop : goal.invariant-loop
invariant-loop g l = record {
  of : IsForkOf (job_of l.job) l.fork;
  boundary : l.fork.boundary ≡ l.boundary;
}
