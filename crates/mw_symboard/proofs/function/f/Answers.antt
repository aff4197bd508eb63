use Rattle.std.proofs.lemmas.Result.{IfOk-weaker}
use Rattle.mw_term.specs.declared.op.Op.TheVariants.{And, Or, Xor, Sum}
use Rattle.mw_term.specs.Values.{IsTermOf}
use Rattle.mw_symmem.specs.Memory.{IsOfWidth}
use Rattle.mw_symboard.proofs.Fitting.{wide_and, wide_or, wide_xor, wide_sum}
use Rattle.std.proofs.Common.{◌∙◌}
use Rattle.mw_term.specs.WordList.{list_of}
use Rattle.mw_symboard.proofs.Listing.{sum_words}
use Rattle.mw_symboard.proofs.function.f.Goals as goal

pub returns-in-Add-clause-wide : goal.returns-in-Add-clause-wide
returns-in-Add-clause-wide c =
    let told = c.args.terms.now in
    let tnew = c.word.new.terms in
    IfOk-weaker c.word.result (IsTermOf told tnew (Sum c.args.addends.0 c.args.addends.1 c.args.carry))
    (IsOfWidth tnew c.args.width)
    (λ term made.
    wide_sum told tnew c.args.width c.args.addends.0 c.args.addends.1 c.args.carry term made c.requires.first)
    c.word.ensures.made

pub returns-in-Or-clause-wide : goal.returns-in-Or-clause-wide
returns-in-Or-clause-wide c =
    let told = c.args.terms.now in
    let tnew = c.word-in-Or.new.terms in
    IfOk-weaker c.word-in-Or.result (IsTermOf told tnew (Or c.args.operands.0 c.args.operands.1))
    (IsOfWidth tnew c.args.width)
    (λ term made. wide_or told tnew c.args.width c.args.operands.0 c.args.operands.1 term made c.requires.r)
    c.word-in-Or.ensures.made

pub returns-in-And-clause-wide : goal.returns-in-And-clause-wide
returns-in-And-clause-wide c =
    let told = c.args.terms.now in
    let tnew = c.word-in-And.new.terms in
    IfOk-weaker c.word-in-And.result (IsTermOf told tnew (And c.args.operands.0 c.args.operands.1))
    (IsOfWidth tnew c.args.width)
    (λ term made. wide_and told tnew c.args.width c.args.operands.0 c.args.operands.1 term made c.requires.r)
    c.word-in-And.ensures.made

pub returns-in-Exor-clause-wide : goal.returns-in-Exor-clause-wide
returns-in-Exor-clause-wide c =
    let told = c.args.terms.now in
    let tnew = c.word-in-Exor.new.terms in
    IfOk-weaker c.word-in-Exor.result (IsTermOf told tnew (Xor c.args.operands.0 c.args.operands.1))
    (IsOfWidth tnew c.args.width)
    (λ term made. wide_xor told tnew c.args.width c.args.operands.0 c.args.operands.1 term made c.requires.r)
    c.word-in-Exor.ensures.made

pub returns-in-Or-clause-listed : goal.returns-in-Or-clause-listed
returns-in-Or-clause-listed c = rw c.in-Or.is c.word-in-Or.ensures.listed

pub returns-in-And-clause-listed : goal.returns-in-And-clause-listed
returns-in-And-clause-listed c = rw c.in-And.is c.word-in-And.ensures.listed

pub returns-in-Notrs-clause-listed : goal.returns-in-Notrs-clause-listed
returns-in-Notrs-clause-listed c = rw c.in-Notrs.is c.not_r_and_s.ensures.listed

pub returns-in-Exor-clause-listed : goal.returns-in-Exor-clause-listed
returns-in-Exor-clause-listed c = rw c.in-Exor.is c.word-in-Exor.ensures.listed

pub returns-in-Exnor-clause-listed : goal.returns-in-Exnor-clause-listed
returns-in-Exnor-clause-listed c = rw c.in-Exnor.is c.alike.ensures.listed

pub returns-in-Add-clause-listed : goal.returns-in-Add-clause-listed
returns-in-Add-clause-listed c =
    IfOk-weaker c.word.result _ _
    (λ term lists. λ reads.
    (lists reads ∙ sum_words c.args.function c.args.operands.0 c.args.operands.1 c.args.addends.0 c.args.addends.1
    c.args.carry (list_of c.args.terms.now.ops c.args.words.now reads) c.in-Add.is))
    c.word.ensures.listed
