use Rattle.mw_symboard.proofs.MadeBits.{after_early, after_late}
use Rattle.mw_symboard.proofs.Listing.{no_late_bit, said_bit}
use Rattle.mw_symboard.specs.Made.{sources_of}
use Rattle.mw_cycle.specs.ReadingWords.{bit_words, early_words}
use Rattle.mw_symboard.proofs.bits.Bits.bit.Goals as goal

pub returns-in-Carry-clause-right : goal.returns-in-Carry-clause-right
returns-in-Carry-clause-right c =
    after_late c.late_word.result c.args.board.now c.args.terms.now c.late_word.new.terms c.args.words.now
    c.late_word.new.words
    c.args.parts.now c.args.sp c.args.sources.now c.args.self.now c.late_word.new.self c.late_word.ensures.early
    c.requires.right
    c.late_word.ensures.right c.late_word.ensures.grew

pub returns-in-Overflow-clause-right : goal.returns-in-Overflow-clause-right
returns-in-Overflow-clause-right c =
    after_late c.late_word-in-Overflow.result c.args.board.now c.args.terms.now c.late_word-in-Overflow.new.terms
    c.args.words.now c.late_word-in-Overflow.new.words
    c.args.parts.now c.args.sp c.args.sources.now c.args.self.now c.late_word-in-Overflow.new.self
    c.late_word-in-Overflow.ensures.early c.requires.right
    c.late_word-in-Overflow.ensures.right c.late_word-in-Overflow.ensures.grew

pub returns-in-FZero-clause-right : goal.returns-in-FZero-clause-right
returns-in-FZero-clause-right c =
    after_late c.f_zero.result c.args.board.now c.args.terms.now c.f_zero.new.terms c.args.words.now c.f_zero.new.words
    c.args.parts.now c.args.sp c.args.sources.now c.args.self.now c.f_zero.new.self c.f_zero.ensures.early
    c.requires.right
    c.f_zero.ensures.right c.f_zero.ensures.grew

pub returns-in-Sign-clause-right : goal.returns-in-Sign-clause-right
returns-in-Sign-clause-right c =
    after_late c.late_word-in-Sign.result c.args.board.now c.args.terms.now c.late_word-in-Sign.new.terms
    c.args.words.now c.late_word-in-Sign.new.words
    c.args.parts.now c.args.sp c.args.sources.now c.args.self.now c.late_word-in-Sign.new.self
    c.late_word-in-Sign.ensures.early c.requires.right
    c.late_word-in-Sign.ensures.right c.late_word-in-Sign.ensures.grew

pub returns-in-FLow-clause-right : goal.returns-in-FLow-clause-right
returns-in-FLow-clause-right c =
    after_late c.late_word-in-FLow.result c.args.board.now c.args.terms.now c.late_word-in-FLow.new.terms
    c.args.words.now c.late_word-in-FLow.new.words
    c.args.parts.now c.args.sp c.args.sources.now c.args.self.now c.late_word-in-FLow.new.self
    c.late_word-in-FLow.ensures.early c.requires.right
    c.late_word-in-FLow.ensures.right c.late_word-in-FLow.ensures.grew

pub returns-in_default-clause-right : goal.returns-in_default-clause-right
returns-in_default-clause-right c =
    after_early c.early.result c.args.board.now c.args.terms.now c.early.new.terms c.args.words.now c.early.new.words
    c.args.parts.now c.args.sp c.args.sources.now c.args.self.now c.early.new.self c.early.ensures.late c.requires.right
    c.early.ensures.right c.early.ensures.grew

pub returns-in_default-clause-listed : goal.returns-in_default-clause-listed
returns-in_default-clause-listed c =
    let no = c.in_default in
    said_bit c.early.result (early_words c.args.board.now c.args.parts.now c.args.sp c.args.sources.now.line c.args.bit)
    (bit_words c.args.board.now c.args.parts.now c.args.sp (sources_of c.args.sources.now) c.args.bit)
    c.args.terms.now c.early.new.terms c.args.words.now c.early.new.words c.args.self.now c.early.new.self
    (λ l.
    no_late_bit c.args.board.now c.args.parts.now c.args.sp (sources_of c.args.sources.now) c.args.bit c.args.self.now l
    no.not-Carry no.not-Overflow no.not-FZero no.not-Sign no.not-FLow no.not-FHigh)
    c.early.ensures.listed
