use Rattle.mw_rel.specs.Views.{job_of}
use Rattle.mw_fork.specs.Forks.{IsForkOf}
use Rattle.mw_callrows.proofs.calls.cases.Cases.take_all.Given as goal

abbrev pub invariant-loop : goal.invariant-loop
invariant-loop g l = IsForkOf (job_of l.job) l.fork
