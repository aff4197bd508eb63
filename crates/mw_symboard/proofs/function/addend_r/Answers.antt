use Rattle.std.proofs.lemmas.Result.{IfOk-weaker}
use Rattle.mw_term.specs.declared.op.Op.TheVariants.{Not}
use Rattle.mw_term.specs.Values.{IsTermOf}
use Rattle.mw_symmem.specs.Memory.{IsOfWidth}
use Rattle.mw_symboard.proofs.Fitting.{wide_not}
use Rattle.mw_symboard.proofs.function.addend_r.Goals as goal

pub returns-in-Subr-clause-wide : goal.returns-in-Subr-clause-wide
returns-in-Subr-clause-wide c =
    let told = c.args.terms.now in
    let tnew = c.word.new.terms in
    IfOk-weaker c.word.result (IsTermOf told tnew (Not c.args.r)) (IsOfWidth tnew c.args.width)
    (λ term made. wide_not told tnew c.args.width c.args.r term made c.requires.wide) c.word.ensures.made

pub returns-in-Subr-clause-listed : goal.returns-in-Subr-clause-listed
returns-in-Subr-clause-listed c = rw c.in-Subr.is c.word.ensures.listed
