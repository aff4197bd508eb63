use Rattle.mw_twinfork.proofs.Budgets.{within_none}
use Rattle.mw_twinfork.proofs.cases.TwinsCaseTree.begin.Goals as goal

pub returns : goal.returns
returns c = record {
  going = c.in_ok-course.ensures;
  within = within_none c.args.self.now.revised c.args.self.now.nodes;
}
