use Rattle.mw_term.specs.declared.op.Op.TheVariants.{Not, And}
use Rattle.mw_symboard.proofs.Fitting.{fits_not, fits_and, wide_not, wide_and}
use Rattle.mw_symboard.proofs.Growing.{grew_then, is_later, wide_later}
use Rattle.std.proofs.Common.{ap, ◌∙◌}
use Rattle.mw_term.specs.WordList.{with_word}
use Rattle.mw_symboard.proofs.function.not_r_and_s.Goals as goal

pub word-requires-clause-fits : goal.word-requires-clause-fits
word-requires-clause-fits c = fits_not c.args.terms.now c.args.width c.args.r c.requires.r

pub word-requires-2-clause-fits : goal.word-requires-2-clause-fits
word-requires-2-clause-fits c =
    let told = c.args.terms.now in
    let t1 = c.word.new.terms in
    let e = c.in_ok-turned.ensures in
    fits_and t1 c.args.width c.in_ok-turned.turned c.args.s
    (wide_not told t1 c.args.width c.args.r c.in_ok-turned.turned e.made c.requires.r)
    (wide_later told t1 c.args.words.now c.word.new.words c.args.width c.args.s e.grew c.requires.s)

pub returns-clause-is : goal.returns-clause-is
returns-clause-is c = (
  c.in_ok-turned.turned,
  is_later c.word.new.terms c.word-2.new.terms c.word.new.words c.word-2.new.words (Not c.args.r) c.in_ok-turned.turned
      c.in_ok-term.ensures.grew c.in_ok-turned.ensures.is,
  c.in_ok-term.ensures.is,
)

pub returns-clause-wide : goal.returns-clause-wide
returns-clause-wide c =
    let told = c.args.terms.now in
    let t1 = c.word.new.terms in
    wide_and t1 c.word-2.new.terms c.args.width c.in_ok-turned.turned c.args.s c.in_ok-term.term
    c.in_ok-term.ensures.made
    (wide_not told t1 c.args.width c.args.r c.in_ok-turned.turned c.in_ok-turned.ensures.made c.requires.r)

pub returns-clause-grew : goal.returns-clause-grew
returns-clause-grew c =
    grew_then c.args.terms.now c.word.new.terms c.word-2.new.terms c.args.words.now c.word.new.words c.word-2.new.words
    c.in_ok-turned.ensures.grew c.in_ok-term.ensures.grew

pub returns-clause-listed : goal.returns-clause-listed
returns-clause-listed c = λ reads.
    (c.in_ok-term.ensures.listed reads
    ∙ ap (λ x. with_word (And x.term c.args.s) x.list) (c.in_ok-turned.ensures.listed reads))
