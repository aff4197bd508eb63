use Rattle.std.proofs.Common.{◌≡◌, ◌∙◌, ◌-◌, ◌<◌, ◌≤◌, length, slice_index, subst, arith, ap, sym}
use Rattle.std.proofs.lemmas.List.{get_or_read}
use Rattle.mw_board.specs.declared.bit.Bit.{Bit}
use Rattle.mw_board.specs.Valid.{IsBit}
use Rattle.mw_symboard.proofs.Fitting.{fits_part}
use Rattle.mw_symboard.proofs.MadeBits.{after_constant}
use Rattle.mw_symboard.proofs.Widths.{q_wide, ir_wide, flip_wide}
use Rattle.mw_cycle.specs.ReadingWords.{early_words, bit_ended}
use Rattle.mw_symboard.proofs.Listing.{constant_bit, no_early_bit}
use Rattle.mw_term.specs.WordList.{with_constant}
use Rattle.std.specs.Prelude.{◌==◌}
use Rattle.mw_base.specs.Words.{num}
use Rattle.mw_symboard.proofs.bits.Bits.early.Goals as goal

pub early_word-requires-clause-fits : goal.early_word-requires-clause-fits
early_word-requires-clause-fits c =
    let parts = rw (← c.parts.view_is) at c.requires.parts in
    let least : 4 ≤ c.args.board.now.width = c.width.ensures.valid.sizes.least in
    fits_part c.args.terms.now c.args.board.now.width c.parts.inside.q 0 1 (q_wide _ _ _ parts)
    (omega arith, omega arith) (omega arith)

pub early_word-requires-in-QHigh-clause-fits : goal.early_word-requires-in-QHigh-clause-fits
early_word-requires-in-QHigh-clause-fits c =
    let parts = rw (← c.parts.view_is) at c.requires.parts in
    let width : c.bits-top.result ≡ c.args.board.now.width = c.bits-top.ensures.exact ∙ c.width.ensures.exact in
    fits_part c.args.terms.now c.args.board.now.width c.parts.inside.q (c.bits-top.result - 1) 1 (q_wide _ _ _ parts)
    (omega arith, omega arith) (omega (arith, width, c.bits-top.ensures.least))

pub early_word-requires-in-Ir-clause-fits : goal.early_word-requires-in-Ir-clause-fits
early_word-requires-in-Ir-clause-fits c =
    let parts = rw (← c.parts.view_is) at c.requires.parts in
    let inside : c.in-Ir.number < c.args.board.now.width =
    subst (λ (b : Bit). IsBit c.args.board.now.width (length c.args.board.now.flipflop) b)
    c.in-Ir.is c.requires.valid in
    fits_part c.args.terms.now c.args.board.now.width c.parts.inside.ir c.in-Ir.number 1 (ir_wide _ _ _ parts)
    (omega arith, omega arith) (omega (arith, inside))

pub returns-in-Flip-clause-wide : goal.returns-in-Flip-clause-wide
returns-in-Flip-clause-wide c =
    let parts = rw (← c.parts.view_is) at c.requires.parts in
    let n = c.from-in-Flip.result in
    let flips = c.parts.inside.flips.items in
    let named : c.in-Flip.number < length c.args.board.now.flipflop =
    subst (λ (b : Bit). IsBit c.args.board.now.width (length c.args.board.now.flipflop) b)
    c.in-Flip.is c.requires.valid in
    let there : n < length c.args.board.now.flipflop = omega (arith, named) in
    let inside : n < length flips = omega (arith, there, parts.flips) in
    let s : c.index.result.now ≡ slice_index flips n =
    get_or_read flips n c.index.result.now inside c.index.ensures 0 in
    rw s (flip_wide _ _ _ n parts there)

pub returns-in-One-clause-right : goal.returns-in-One-clause-right
returns-in-One-clause-right c =
    after_constant c.constant.result c.args.board.now c.args.terms.now c.constant.new.terms c.args.parts.now c.args.sp
    c.args.line
    c.args.self.now.early c.requires.right c.constant.ensures.grew

pub returns-in-Full-clause-right : goal.returns-in-Full-clause-right
returns-in-Full-clause-right c =
    after_constant c.constant-in-Full.result c.args.board.now c.args.terms.now c.constant-in-Full.new.terms
    c.args.parts.now c.args.sp c.args.line
    c.args.self.now.early c.requires.right c.constant-in-Full.ensures.grew

pub returns-in_default-clause-right : goal.returns-in_default-clause-right
returns-in_default-clause-right c =
    after_constant c.constant-in_default.result c.args.board.now c.args.terms.now c.constant-in_default.new.terms
    c.args.parts.now c.args.sp c.args.line
    c.args.self.now.early c.requires.right c.constant-in_default.ensures.grew

pub returns-in-One-clause-listed : goal.returns-in-One-clause-listed
returns-in-One-clause-listed c =
    constant_bit c.constant.result 1 (early_words c.args.board.now c.args.parts.now c.args.sp c.args.line c.args.bit)
    c.args.terms.now c.constant.new.terms c.args.words.now c.args.self.now
    (λ l.
    sym (ap (λ (bit : Bit). early_words c.args.board.now c.args.parts.now c.args.sp c.args.line bit c.args.self.now l)
    c.in-One.is))
    c.constant.ensures.listed

pub returns-in-Full-clause-listed : goal.returns-in-Full-clause-listed
returns-in-Full-clause-listed c =
    let full = c.from.ensures ∙ ap (λ depth. num (c.args.sp == depth)) c.depth.ensures.exact in
    constant_bit c.constant-in-Full.result c.from.result
    (early_words c.args.board.now c.args.parts.now c.args.sp c.args.line c.args.bit)
    c.args.terms.now c.constant-in-Full.new.terms c.args.words.now c.args.self.now
    (λ l. ap (λ n. bit_ended c.args.self.now (with_constant n 1 l)) full
    ∙ sym (ap (λ (bit : Bit). early_words c.args.board.now c.args.parts.now c.args.sp c.args.line bit c.args.self.now l)
    c.in-Full.is))
    c.constant-in-Full.ensures.listed

pub returns-in_default-clause-listed : goal.returns-in_default-clause-listed
returns-in_default-clause-listed c =
    let no = c.in_default in
    constant_bit c.constant-in_default.result 0
    (early_words c.args.board.now c.args.parts.now c.args.sp c.args.line c.args.bit)
    c.args.terms.now c.constant-in_default.new.terms c.args.words.now c.args.self.now
    (λ l. no_early_bit c.args.board.now c.args.parts.now c.args.sp c.args.line c.args.bit c.args.self.now l no.not-One
    no.not-QLow no.not-QHigh no.not-Line no.not-Full no.not-Ir no.not-Flip)
    c.constant-in_default.ensures.listed
