use Rattle.std.proofs.lemmas.Result.{IfOk-weaker}
use Rattle.mw_term.specs.declared.op.Op.TheVariants.{Not}
use Rattle.mw_term.specs.Values.{IsTermOf}
use Rattle.mw_symmem.specs.Memory.{IsOfWidth}
use Rattle.mw_symboard.proofs.Fitting.{wide_not}
use Rattle.mw_symboard.proofs.function.addend_s.Goals as goal

pub returns-in-Subs-clause-wide : goal.returns-in-Subs-clause-wide
returns-in-Subs-clause-wide c =
    let told = c.args.terms.now in
    let tnew = c.word.new.terms in
    IfOk-weaker c.word.result (IsTermOf told tnew (Not c.args.s)) (IsOfWidth tnew c.args.width)
    (λ term made. wide_not told tnew c.args.width c.args.s term made c.requires.wide) c.word.ensures.made

pub returns-in-Subs-clause-listed : goal.returns-in-Subs-clause-listed
returns-in-Subs-clause-listed c = rw c.in-Subs.is c.word.ensures.listed
