use Rattle.std.proofs.Common.{◌≡◌, ◌<◌, length, slice_index, subst, arith, ◌∙◌, ap, sym}
use Rattle.std.proofs.lemmas.List.{get_or_read}
use Rattle.mw_board.specs.declared.bit.DFrom.{DFrom}
use Rattle.mw_board.specs.Valid.{IsFrom}
use Rattle.mw_symmem.specs.Memory.{writes_of}
use Rattle.mw_symboard.proofs.Sources.{constant_ok, goes_ok}
use Rattle.mw_symboard.proofs.VariableWidths.{inputs_ok}
use Rattle.mw_symboard.proofs.Widths.{flip_wide, ir_wide, mar_wide}
use Rattle.mw_term.specs.WordList.{with_constant}
use Rattle.mw_cycle.specs.ReadingWords.{source_words}
use Rattle.mw_symboard.proofs.Listing.{constant_over}
use Rattle.std.specs.Prelude.{◌%◌, ◌^◌, slice_get}
use Rattle.mw_cycle.specs.Control.{in_field}
use Rattle.mw_symboard.proofs.source.from_source.Goals as goal

pub read_source-requires-clause-wide : goal.read_source-requires-clause-wide
read_source-requires-clause-wide c =
    let parts = rw (← c.parts.view_is) at c.requires.parts in
    mar_wide _ _ _ parts

pub returns-in-Ir-clause-wide : goal.returns-in-Ir-clause-wide
returns-in-Ir-clause-wide c =
    let parts = rw (← c.parts.view_is) at c.requires.parts in
    ir_wide _ _ _ parts

pub widened-requires-clause-wide : goal.widened-requires-clause-wide
widened-requires-clause-wide c =
    let parts = rw (← c.parts.view_is) at c.requires.parts in
    rw c.parts-in-Mar.ensures.exact (mar_wide _ _ _ parts)

pub widened-requires-in-Flip-clause-wide : goal.widened-requires-in-Flip-clause-wide
widened-requires-in-Flip-clause-wide c =
    let parts = rw (← c.parts.view_is) at c.requires.parts in
    let board = c.args.board.now in
    let n = c.from.result in
    let flips = c.parts.inside.flips.items in
    let named : c.in-Flip.number < length board.flipflop =
    subst (λ (f : DFrom). IsFrom (length board.fields) (length board.flipflop) f)
    c.in-Flip.is c.requires.microword.d.from in
    let there : n < length board.flipflop = omega (arith, named) in
    let inside : n < length flips = omega (arith, there, parts.flips) in
    let s : c.index-flip.result.now ≡ slice_index flips n =
    get_or_read flips n c.index-flip.result.now inside c.index-flip.ensures 0 in
    rw s (flip_wide _ _ _ n parts there)

pub returns-in-Zero-clause-goes : goal.returns-in-Zero-clause-goes
returns-in-Zero-clause-goes c =
    goes_ok c.constant.result c.args.taken c.args.terms.now c.constant.new.terms c.args.words.now c.args.words.now
    c.args.memory.now
    c.requires.workspace (constant_ok c.constant.result c.args.terms.now c.constant.new.terms c.args.words.now
    c.constant.ensures.grew)

pub returns-in-Zero-clause-inputs : goal.returns-in-Zero-clause-inputs
returns-in-Zero-clause-inputs c =
    inputs_ok c.constant.result c.args.board.now c.args.terms.now c.constant.new.terms c.args.words.now c.args.words.now
    c.requires.inputs (constant_ok c.constant.result c.args.terms.now c.constant.new.terms c.args.words.now
    c.constant.ensures.grew)

pub returns-in-Mar-clause-goes : goal.returns-in-Mar-clause-goes
returns-in-Mar-clause-goes c =
    goes_ok c.widened.result c.args.taken c.args.terms.now c.widened.new.terms c.args.words.now c.widened.new.words
    c.args.memory.now
    c.requires.workspace (c.widened.ensures.grew)

pub returns-in-Mar-clause-inputs : goal.returns-in-Mar-clause-inputs
returns-in-Mar-clause-inputs c =
    inputs_ok c.widened.result c.args.board.now c.args.terms.now c.widened.new.terms c.args.words.now
    c.widened.new.words c.requires.inputs (c.widened.ensures.grew)

pub returns-in-Field-clause-goes : goal.returns-in-Field-clause-goes
returns-in-Field-clause-goes c =
    goes_ok c.constant-in-Field.result c.args.taken c.args.terms.now c.constant-in-Field.new.terms c.args.words.now
    c.args.words.now c.args.memory.now
    c.requires.workspace (constant_ok c.constant-in-Field.result c.args.terms.now c.constant-in-Field.new.terms
    c.args.words.now c.constant-in-Field.ensures.grew)

pub returns-in-Field-clause-inputs : goal.returns-in-Field-clause-inputs
returns-in-Field-clause-inputs c =
    inputs_ok c.constant-in-Field.result c.args.board.now c.args.terms.now c.constant-in-Field.new.terms
    c.args.words.now c.args.words.now
    c.requires.inputs (constant_ok c.constant-in-Field.result c.args.terms.now c.constant-in-Field.new.terms
    c.args.words.now c.constant-in-Field.ensures.grew)

pub returns-in-Flip-clause-goes : goal.returns-in-Flip-clause-goes
returns-in-Flip-clause-goes c =
    goes_ok c.widened-in-Flip.result c.args.taken c.args.terms.now c.widened-in-Flip.new.terms c.args.words.now
    c.widened-in-Flip.new.words c.args.memory.now
    c.requires.workspace (c.widened-in-Flip.ensures.grew)

pub returns-in-Flip-clause-inputs : goal.returns-in-Flip-clause-inputs
returns-in-Flip-clause-inputs c =
    inputs_ok c.widened-in-Flip.result c.args.board.now c.args.terms.now c.widened-in-Flip.new.terms c.args.words.now
    c.widened-in-Flip.new.words
    c.requires.inputs (c.widened-in-Flip.ensures.grew)

pub returns-in-Zero-clause-listed : goal.returns-in-Zero-clause-listed
returns-in-Zero-clause-listed c =
    let board = c.args.board.now in
    let width : c.bits-width.result ≡ board.width = c.bits-width.ensures.exact ∙ c.width.ensures.exact in
    constant_over c.constant.result 0 c.bits-width.result _ c.args.terms.now c.constant.new.terms c.args.words.now
    c.args.memory.now
    (λ l. ap (λ w. with_constant 0 w l) width
    ∙ sym (ap
    (λ from. source_words board c.args.microword.now.word c.args.parts.now (writes_of c.args.memory.now c.args.side) c.args.taken from l)
    c.in-Zero.is)) c.constant.ensures.listed

pub returns-in-Field-clause-listed : goal.returns-in-Field-clause-listed
returns-in-Field-clause-listed c =
    let board = c.args.board.now in
    let width : c.bits-width.result ≡ board.width = c.bits-width.ensures.exact ∙ c.width.ensures.exact in
    constant_over c.constant-in-Field.result c.field.result c.bits-width.result _ c.args.terms.now
    c.constant-in-Field.new.terms c.args.words.now c.args.memory.now
    (λ l. ap (λ n. with_constant n c.bits-width.result l) c.field.ensures.exact
    ∙ ap (λ w.
    with_constant (in_field (slice_get board.fields c.in-Field.number) c.args.microword.now.word % 2 ^ board.width) w l)
    width
    ∙ sym (ap
    (λ from. source_words board c.args.microword.now.word c.args.parts.now (writes_of c.args.memory.now c.args.side) c.args.taken from l)
    c.in-Field.is)) c.constant-in-Field.ensures.listed
