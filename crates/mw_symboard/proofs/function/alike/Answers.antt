use Rattle.mw_term.specs.declared.op.Op.TheVariants.{Xor}
use Rattle.mw_symboard.proofs.Fitting.{fits_not, fits_xor, wide_not, wide_xor}
use Rattle.mw_symboard.proofs.Growing.{grew_then, is_later}
use Rattle.std.proofs.Common.{ap, ◌∙◌}
use Rattle.mw_term.specs.WordList.{with_complement}
use Rattle.mw_symboard.proofs.function.alike.Goals as goal

pub word-requires-clause-fits : goal.word-requires-clause-fits
word-requires-clause-fits c =
    fits_xor c.args.terms.now c.args.width c.args.r c.args.s c.requires.r c.requires.s

pub word-requires-2-clause-fits : goal.word-requires-2-clause-fits
word-requires-2-clause-fits c =
    fits_not c.word.new.terms c.args.width c.in_ok-differing.differing
    (wide_xor c.args.terms.now c.word.new.terms c.args.width c.args.r c.args.s c.in_ok-differing.differing
    c.in_ok-differing.ensures.made c.requires.r)

pub returns-clause-is : goal.returns-clause-is
returns-clause-is c = (
  c.in_ok-differing.differing,
  is_later c.word.new.terms c.word-2.new.terms c.word.new.words c.word-2.new.words (Xor c.args.r c.args.s)
      c.in_ok-differing.differing c.in_ok-term.ensures.grew c.in_ok-differing.ensures.is,
  c.in_ok-term.ensures.is,
)

pub returns-clause-wide : goal.returns-clause-wide
returns-clause-wide c =
    wide_not c.word.new.terms c.word-2.new.terms c.args.width c.in_ok-differing.differing c.in_ok-term.term
    c.in_ok-term.ensures.made
    (wide_xor c.args.terms.now c.word.new.terms c.args.width c.args.r c.args.s c.in_ok-differing.differing
    c.in_ok-differing.ensures.made c.requires.r)

pub returns-clause-grew : goal.returns-clause-grew
returns-clause-grew c =
    grew_then c.args.terms.now c.word.new.terms c.word-2.new.terms c.args.words.now c.word.new.words c.word-2.new.words
    c.in_ok-differing.ensures.grew c.in_ok-term.ensures.grew

pub returns-clause-listed : goal.returns-clause-listed
returns-clause-listed c = λ reads.
    (c.in_ok-term.ensures.listed reads
    ∙ ap (λ x. with_complement x.term x.list) (c.in_ok-differing.ensures.listed reads))
