use Rattle.mw_rel.specs.Views.{job_of}
use Rattle.mw_fork.proofs.Budgets.{within_none}
use Rattle.mw_fork.proofs.cases.StartsCaseTree.begin.Goals as goal

pub returns : goal.returns
returns c = record {
  going = c.in_ok-course.ensures;
  within = within_none (job_of c.args.self.now.job.now) c.args.self.now.boundary c.args.self.now.nodes;
}
