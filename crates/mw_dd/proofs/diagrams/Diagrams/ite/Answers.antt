use Rattle.mw_dd.proofs.Unique.{canonical}
use Rattle.mw_dd.proofs.diagrams.Diagrams.ite.Goals as goal

pub returns-clause-within : goal.returns-clause-within
returns-clause-within c = rw (← c.self.view_is) c.operate.ensures.within

pub returns-clause-over : goal.returns-clause-over
returns-clause-over c = λ same. rw (← c.self.view_is) (c.operate.ensures.over same)

pub returns-clause-canonical : goal.returns-clause-canonical
returns-clause-canonical c = canonical c.operate.new.nodes c.operate.ensures.right.reduced
