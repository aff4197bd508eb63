use Rattle.std.proofs.Common.{◌≡◌, sym, slice_index, subst}
use Rattle.mw_alu.specs.Instruction.{source_of}
use Rattle.mw_symboard.specs.Parts.{AreParts}
use Rattle.mw_cycle.specs.BoardTerms.{Parts}
use Rattle.mw_symboard.proofs.Growing.{grew_then, wide_later}
use Rattle.mw_symboard.proofs.Read.{r_at}
use Rattle.mw_symboard.proofs.Widths.{q_wide, register_wide}
use Rattle.mw_symboard.proofs.reading.operands.Goals as goal

pub r-requires-clause-a : goal.r-requires-clause-a
r-requires-clause-a c =
    let w : c.bits-width.result ≡ c.args.board.now.width = cc in
    rw (w, c.register-a.ensures)
    (register_wide c.args.board.now c.args.terms.now c.args.parts.now c.args.microword.now.a_address c.requires.parts
    c.requires.microword.a_address)

pub s-requires-clause-a : goal.s-requires-clause-a
s-requires-clause-a c =
    let b = c.args.board.now in
    let m = c.args.microword.now in
    let w : c.bits-width.result ≡ b.width = cc in
    rw (w, c.register-a.ensures)
    (wide_later c.args.terms.now c.r.new.terms c.args.words.now c.r.new.words b.width
    (slice_index c.args.parts.now.regs m.a_address) c.in_ok-r.ensures.grew
    (register_wide b c.args.terms.now c.args.parts.now m.a_address c.requires.parts c.requires.microword.a_address))

pub s-requires-clause-b : goal.s-requires-clause-b
s-requires-clause-b c =
    let b = c.args.board.now in
    let m = c.args.microword.now in
    let w : c.bits-width.result ≡ b.width = cc in
    rw (w, c.register-b.ensures)
    (wide_later c.args.terms.now c.r.new.terms c.args.words.now c.r.new.words b.width
    (slice_index c.args.parts.now.regs m.b_address) c.in_ok-r.ensures.grew
    (register_wide b c.args.terms.now c.args.parts.now m.b_address c.requires.parts c.requires.microword.b_address))

pub s-requires-clause-q : goal.s-requires-clause-q
s-requires-clause-q c =
    let b = c.args.board.now in
    let w : c.bits-width.result ≡ b.width = cc in
    let are = subst (λ (p : Parts). AreParts b c.args.terms.now p) (sym c.parts.view_is) c.requires.parts in
    rw w
    (wide_later c.args.terms.now c.r.new.terms c.args.words.now c.r.new.words b.width c.parts.inside.q
    c.in_ok-r.ensures.grew (q_wide b c.args.terms.now _ are))

pub returns-clause-r : goal.returns-clause-r
returns-clause-r c =
    let b = c.args.board.now in
    let m = c.args.microword.now in
    let w : c.bits-width.result ≡ b.width = cc in
    r_at c.r.new.terms c.s.new.terms c.bits-width.result b.width c.of-from.result (source_of m.instruction)
    c.register-a.result (slice_index c.args.parts.now.regs m.a_address) c.args.d c.in_ok-r.r
    c.in_ok-s.ensures.grew.1.extends w c.of-from.ensures c.register-a.ensures c.in_ok-r.ensures.is

pub returns-clause-grew : goal.returns-clause-grew
returns-clause-grew c =
    grew_then c.args.terms.now c.r.new.terms c.s.new.terms c.args.words.now c.r.new.words c.s.new.words
    c.in_ok-r.ensures.grew c.in_ok-s.ensures.grew
