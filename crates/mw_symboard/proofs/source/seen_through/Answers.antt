use Rattle.mw_term.specs.declared.op.Op.TheVariants.{Con, And}
use Rattle.mw_symboard.proofs.Fitting.{fits_and, wide_and}
use Rattle.mw_symboard.proofs.Growing.{grew_then, is_later, wide_later}
use Rattle.std.proofs.Common.{ap, ◌∙◌}
use Rattle.mw_term.specs.WordList.{with_word}
use Rattle.mw_symboard.proofs.source.seen_through.Goals as goal

pub word-requires-clause-fits : goal.word-requires-clause-fits
word-requires-clause-fits c =
    let e = c.in_ok-constant.ensures in
    let ws = c.args.words.now in
    fits_and c.constant.new.terms c.args.width c.args.whole c.in_ok-constant.constant
    (wide_later c.args.terms.now c.constant.new.terms ws ws c.args.width c.args.whole (e.grew ws) c.requires.wide)
    e.wide

pub returns-clause-is : goal.returns-clause-is
returns-clause-is c = (
  c.in_ok-constant.constant,
  is_later c.constant.new.terms c.word.new.terms c.args.words.now c.word.new.words (Con c.args.mask c.args.width)
      c.in_ok-constant.constant c.in_ok-term.ensures.grew c.in_ok-constant.ensures.is,
  c.in_ok-term.ensures.is,
)

pub returns-clause-wide : goal.returns-clause-wide
returns-clause-wide c =
    let e = c.in_ok-constant.ensures in
    let ws = c.args.words.now in
    wide_and c.constant.new.terms c.word.new.terms c.args.width c.args.whole c.in_ok-constant.constant c.in_ok-term.term
    c.in_ok-term.ensures.made
    (wide_later c.args.terms.now c.constant.new.terms ws ws c.args.width c.args.whole (e.grew ws) c.requires.wide)

pub returns-clause-grew : goal.returns-clause-grew
returns-clause-grew c =
    let ws = c.args.words.now in
    grew_then c.args.terms.now c.constant.new.terms c.word.new.terms ws ws c.word.new.words
    (c.in_ok-constant.ensures.grew ws) c.in_ok-term.ensures.grew

pub returns-clause-listed : goal.returns-clause-listed
returns-clause-listed c = λ reads.
    (c.in_ok-term.ensures.listed reads
    ∙ ap (λ x. with_word (And c.args.whole x.term) x.list) (c.in_ok-constant.ensures.listed c.args.words.now reads))
