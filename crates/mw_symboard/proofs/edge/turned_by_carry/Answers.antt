use Rattle.mw_board.specs.declared.bit.Bit.TheVariants.{Carry}
use Rattle.mw_symboard.proofs.Fitting.{fits_xor, wide_xor}
use Rattle.mw_symboard.proofs.Growing.{grew_then, wide_later}
use Rattle.mw_symboard.proofs.Standing.{bit_term_stays, bits_stay}
use Rattle.std.proofs.Common.{ap, ◌∙◌}
use Rattle.mw_term.specs.WordList.{with_word}
use Rattle.mw_cycle.specs.ReadingWords.{BitEnded, bit_ended}
use Rattle.mw_term.specs.declared.op.Op.TheVariants.{Xor}
use Rattle.mw_symboard.proofs.edge.turned_by_carry.Goals as goal

pub word-requires-clause-fits : goal.word-requires-clause-fits
word-requires-clause-fits c =
    let e = c.in_ok-carry.ensures in
    fits_xor c.bit.new.terms 1 c.args.old c.in_ok-carry.carry
    (wide_later c.args.terms.now c.bit.new.terms c.args.words.now c.bit.new.words 1 c.args.old e.grew c.requires.old)
    e.wide

pub returns-clause-is : goal.returns-clause-is
returns-clause-is c = (
  c.in_ok-carry.carry,
  bit_term_stays c.args.board.now c.bit.new.terms c.word.new.terms c.args.parts.now c.args.sp c.args.sources.now Carry
      c.in_ok-carry.carry c.in_ok-term.ensures.grew.1.extends c.in_ok-carry.ensures.is,
  c.in_ok-term.ensures.is,
)

pub returns-clause-wide : goal.returns-clause-wide
returns-clause-wide c =
    wide_xor c.bit.new.terms c.word.new.terms 1 c.args.old c.in_ok-carry.carry c.in_ok-term.term
    c.in_ok-term.ensures.made
    (wide_later c.args.terms.now c.bit.new.terms c.args.words.now c.bit.new.words 1 c.args.old
    c.in_ok-carry.ensures.grew c.requires.old)

pub returns-clause-right : goal.returns-clause-right
returns-clause-right c =
    let e = c.in_ok-term.ensures in
    bits_stay c.args.board.now c.bit.new.terms c.word.new.terms c.args.parts.now c.args.sp c.args.sources.now
    c.bit.new.self e.grew.1.extends e.grew.1.keeps c.in_ok-carry.ensures.right

pub returns-clause-grew : goal.returns-clause-grew
returns-clause-grew c =
    grew_then c.args.terms.now c.bit.new.terms c.word.new.terms c.args.words.now c.bit.new.words c.word.new.words
    c.in_ok-carry.ensures.grew c.in_ok-term.ensures.grew

pub returns-clause-listed : goal.returns-clause-listed
returns-clause-listed c = λ reads.
    (ap (bit_ended c.bit.new.self) (c.in_ok-term.ensures.listed reads)
    ∙ ap (λ (b : BitEnded). bit_ended b.bits (with_word (Xor c.args.old b.term) b.list))
    (c.in_ok-carry.ensures.listed reads))
