use Rattle.mw_fork.proofs.StartLaws.{in_order, some_case}
use Rattle.mw_fork.proofs.cases.StartsCaseTree.are_in_order.Goals as goal

pub returns-clause-some : goal.returns-clause-some
returns-clause-some c = some_case c.args.self.now

pub returns-clause-order : goal.returns-clause-order
returns-clause-order c = in_order c.args.self.now
