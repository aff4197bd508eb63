use Rattle.std.proofs.Common.{List, ◌-◌}
use Rattle.mw_term.specs.declared.decided.Decided.{Decided}
use Rattle.mw_rel.specs.Views.{job_of}
use Rattle.mw_fork.proofs.Walking.{HasGiven}
use Rattle.mw_fork.proofs.walk.walk_on.Given as goal

-- the cases that the fork has given were handed over
abbrev pub invariant-loop-case : goal.invariant-loop-case
invariant-loop-case g l = record {
  cases : List (List Decided);
  given : HasGiven (job_of l.job) l.fn.fork.boundary l.fn.fork.budget l.fork cases;
  says : g.V.Visitor.has_seen l.fn.visitor l.visitor (job_of l.job) l.fn.fork.boundary l.fn.fork.budget cases;
}

abbrev pub decreases-loop-case : goal.decreases-loop-case
decreases-loop-case g l = l.fork.budget.paths - l.fork.given
