use Rattle.mw_symboard.proofs.Fitting.{wide_constant}
use Rattle.mw_twin.proofs.ElementTerms.{below_constant, constant_value}
use Rattle.mw_twin.proofs.elements.constant.Goals as goal

pub returns-clause-wide : goal.returns-clause-wide
returns-clause-wide c = wide_constant _ _ _ _ _ c.in_ok-term.ensures.made

pub returns-clause-is : goal.returns-clause-is
returns-clause-is c = constant_value _ _ _ _ _ c.in_ok-term.ensures.made

pub returns-clause-below : goal.returns-clause-below
returns-clause-below c = λ number before.
    let e = c.in_ok-term.ensures in
    below_constant number c.args.space.now.terms _ _ _ c.args.value c.args.width c.in_ok-term.term e.appends e.extends
    e.keeps e.table before
