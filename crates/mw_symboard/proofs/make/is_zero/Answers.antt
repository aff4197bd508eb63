use Rattle.mw_term.specs.declared.op.Op.TheVariants.{Con, Eq}
use Rattle.mw_symboard.proofs.Fitting.{fits_eq, wide_equal}
use Rattle.mw_symboard.proofs.Growing.{grew_then, is_later, wide_later}
use Rattle.std.proofs.Common.{ap, ◌∙◌}
use Rattle.mw_term.specs.WordList.{with_word}
use Rattle.mw_symboard.proofs.make.is_zero.Goals as goal

pub word-requires-clause-fits : goal.word-requires-clause-fits
word-requires-clause-fits c =
    let e = c.in_ok-zero.ensures in
    let ws = c.args.words.now in
    fits_eq c.constant.new.terms c.args.width c.args.tested c.in_ok-zero.zero
    (wide_later c.args.terms.now c.constant.new.terms ws ws c.args.width c.args.tested (e.grew ws) c.requires.wide)
    e.wide

pub returns-clause-is : goal.returns-clause-is
returns-clause-is c = (
  c.in_ok-zero.zero,
  is_later c.constant.new.terms c.word.new.terms c.args.words.now c.word.new.words (Con 0 c.args.width)
      c.in_ok-zero.zero c.in_ok-term.ensures.grew c.in_ok-zero.ensures.is,
  c.in_ok-term.ensures.is,
)

pub returns-clause-wide : goal.returns-clause-wide
returns-clause-wide c =
    wide_equal c.constant.new.terms c.word.new.terms c.args.tested c.in_ok-zero.zero c.in_ok-term.term
    c.in_ok-term.ensures.made

pub returns-clause-grew : goal.returns-clause-grew
returns-clause-grew c =
    let ws = c.args.words.now in
    grew_then c.args.terms.now c.constant.new.terms c.word.new.terms ws ws c.word.new.words
    (c.in_ok-zero.ensures.grew ws) c.in_ok-term.ensures.grew

pub returns-clause-listed : goal.returns-clause-listed
returns-clause-listed c = λ reads.
    (c.in_ok-term.ensures.listed reads
    ∙ ap (λ x. with_word (Eq c.args.tested x.term) x.list) (c.in_ok-zero.ensures.listed c.args.words.now reads))
