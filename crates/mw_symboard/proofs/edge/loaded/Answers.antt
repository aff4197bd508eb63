use Rattle.std.proofs.lemmas.Result.{IfOk-weaker}
use Rattle.mw_term.specs.declared.op.Op.TheVariants.{Not}
use Rattle.mw_term.specs.Values.{IsTermOf}
use Rattle.mw_symmem.specs.Memory.{IsOfWidth}
use Rattle.mw_symboard.proofs.Fitting.{fits_not, wide_not}
use Rattle.mw_symboard.proofs.MadeBits.{after_word}
use Rattle.mw_term.specs.WordList.{with_complement}
use Rattle.mw_symboard.proofs.Listing.{beside_bits}
use Rattle.mw_symboard.proofs.edge.loaded.Goals as goal

pub word-requires-clause-fits : goal.word-requires-clause-fits
word-requires-clause-fits c = fits_not c.args.terms.now 1 c.args.old c.requires.old

pub returns-in-Invert-clause-wide : goal.returns-in-Invert-clause-wide
returns-in-Invert-clause-wide c =
    let told = c.args.terms.now in
    let tnew = c.word.new.terms in
    IfOk-weaker c.word.result (IsTermOf told tnew (Not c.args.old)) (IsOfWidth tnew 1)
    (λ term made. wide_not told tnew 1 c.args.old term made c.requires.old) c.word.ensures.made

pub returns-in-Invert-clause-right : goal.returns-in-Invert-clause-right
returns-in-Invert-clause-right c =
    after_word c.word.result c.args.board.now c.args.terms.now c.word.new.terms c.args.words.now c.word.new.words
    c.args.parts.now c.args.sp c.args.sources.now c.args.bits.now c.requires.right c.word.ensures.grew

pub returns-in-Invert-clause-listed : goal.returns-in-Invert-clause-listed
returns-in-Invert-clause-listed c =
    rw c.in-Invert.is
    (beside_bits c.word.result (with_complement c.args.old)
    c.args.terms.now c.word.new.terms c.args.words.now c.word.new.words c.args.bits.now c.word.ensures.listed)
