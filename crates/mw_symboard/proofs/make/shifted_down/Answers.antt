use Rattle.std.proofs.Common.{◌-◌, arith, ap, ◌∙◌}
use Rattle.mw_term.specs.declared.op.Op.TheVariants.{Part, Join}
use Rattle.mw_symboard.proofs.Fitting.{fits_join, fits_part, wide_join, wide_part}
use Rattle.mw_symboard.proofs.Growing.{grew_then, is_later, wide_later}
use Rattle.mw_term.specs.WordList.{with_word}
use Rattle.mw_symboard.proofs.make.shifted_down.Goals as goal

pub word-requires-clause-fits : goal.word-requires-clause-fits
word-requires-clause-fits c =
    fits_part c.args.terms.now c.args.width c.args.shifted 1 (c.args.width - 1) c.requires.wide
    (omega arith, omega arith) (omega arith)

pub word-requires-2-clause-fits : goal.word-requires-2-clause-fits
word-requires-2-clause-fits c =
    let told = c.args.terms.now in
    let t1 = c.word.new.terms in
    let e = c.in_ok-rest.ensures in
    let rest = wide_part told t1 c.args.shifted 1 (c.args.width - 1) c.in_ok-rest.rest e.made in
    let bit = wide_later told t1 c.args.words.now c.word.new.words 1 c.args.high e.grew c.requires.bit in
    fits_join t1 1 (c.args.width - 1) c.args.high c.in_ok-rest.rest bit rest (omega arith)

pub returns-clause-is : goal.returns-clause-is
returns-clause-is c = (
  c.in_ok-rest.rest,
  is_later c.word.new.terms c.word-2.new.terms c.word.new.words c.word-2.new.words
      (Part c.args.shifted 1 (c.args.width - 1)) c.in_ok-rest.rest c.in_ok-term.ensures.grew c.in_ok-rest.ensures.is,
  c.in_ok-term.ensures.is,
)

pub returns-clause-wide : goal.returns-clause-wide
returns-clause-wide c =
    let told = c.args.terms.now in
    let t1 = c.word.new.terms in
    let e = c.in_ok-rest.ensures in
    let rest = wide_part told t1 c.args.shifted 1 (c.args.width - 1) c.in_ok-rest.rest e.made in
    let bit = wide_later told t1 c.args.words.now c.word.new.words 1 c.args.high e.grew c.requires.bit in
    wide_join t1 c.word-2.new.terms 1 (c.args.width - 1) c.args.width c.args.high c.in_ok-rest.rest c.in_ok-term.term
    c.in_ok-term.ensures.made bit rest (omega arith)

pub returns-clause-grew : goal.returns-clause-grew
returns-clause-grew c =
    grew_then c.args.terms.now c.word.new.terms c.word-2.new.terms c.args.words.now c.word.new.words c.word-2.new.words
    c.in_ok-rest.ensures.grew c.in_ok-term.ensures.grew

pub returns-clause-listed : goal.returns-clause-listed
returns-clause-listed c = λ reads.
    (c.in_ok-term.ensures.listed reads
    ∙ ap (λ x. with_word (Join c.args.high x.term) x.list) (c.in_ok-rest.ensures.listed reads))
