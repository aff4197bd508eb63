use Rattle.mw_symboard.proofs.Fitting.{wide_constant}
use Rattle.mw_twin.proofs.ElementTerms.{constant_value}
use Rattle.mw_twincompare.proofs.Valued.{constant_goes}
use Rattle.mw_twincompare.proofs.values.constant.Goals as goal

pub returns-clause-goes : goal.returns-clause-goes
returns-clause-goes c =
    let e = c.in_ok-term.ensures in
    constant_goes c.args.space.now.terms _ _ _ c.args.value c.args.width c.in_ok-term.term e.appends e.extends e.keeps
    e.table c.requires.workspace

pub returns-clause-wide : goal.returns-clause-wide
returns-clause-wide c = wide_constant _ _ _ _ _ c.in_ok-term.ensures.made

pub returns-clause-is : goal.returns-clause-is
returns-clause-is c = λ given on. constant_value _ _ _ _ _ c.in_ok-term.ensures.made given
