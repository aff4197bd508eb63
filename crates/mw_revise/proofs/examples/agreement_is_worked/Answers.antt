use Rattle.mw_revise.proofs.Worked.{ors_disagree, staying_agrees}
use Rattle.mw_revise.proofs.examples.agreement_is_worked.Goals as goal

pub returns-clause-agree : goal.returns-clause-agree
returns-clause-agree c = staying_agrees

pub returns-clause-differ : goal.returns-clause-differ
returns-clause-differ c = ors_disagree
