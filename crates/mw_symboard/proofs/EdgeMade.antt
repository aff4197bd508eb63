-- The words of what the parts of a board take at the edge.
use Rattle.std.proofs.Common.{◌≡◌, ◌∙◌, ℕ, List, [], ap, sym}
use Rattle.std.specs.Prelude.{Option}
use Rattle.mw_alu.specs.Instruction.{destination_of}
use Rattle.mw_board.specs.declared.parts.BoardParts.{BoardParts}
use Rattle.mw_cycle.specs.declared.microword.Microword.{Microword}
use Rattle.mw_cycle.specs.BoardTerms.{Parts}
use Rattle.mw_cycle.specs.EdgeWords.{Loaded, Made, Takes, edge_made, flips_words, mar_words, q_words, register_words}
use Rattle.mw_cycle.specs.ReadingWords.{Bits, Reading}
use Rattle.mw_term.specs.WordList.{WordList, Ended, ended}

-- what the parts take, from the words of each
pub made_are : (board : BoardParts) (m : Microword) (p : Parts) (sp : ℕ) (reading : Reading)
    (l0 l1 l2 l3 l4 : WordList) (b1 b2 b3 : Bits) (register q : Option ℕ) (flips : List ℕ) (mar : ℕ)
    → record { list = l1; bits = b1; taken = register }
    ≡ register_words (destination_of m.instruction) board m p sp reading.sources
    (record { list = l0; bits = reading.bits })
    → record { list = l2; bits = b2; taken = q }
    ≡ q_words (destination_of m.instruction) board m p sp reading.sources (record { list = l1; bits = b1 })
    → flips_words board m p sp reading.sources board.flipflop p.flips (record { list = l2; bits = b2; flips = [] })
    ≡ record { list = l3; bits = b3; flips = flips }
    → ended mar l4 ≡ mar_words m.mar_load board p.mar reading.y l3
    → edge_made board m p sp reading l0
    ≡ record { list = l4; register = register; q = q; flips = flips; mar = mar }
made_are board m p sp reading l0 l1 l2 l3 l4 b1 b2 b3 register q flips mar h1 h2 h3 h4 =
    let n = reading.sources in
    let whole : Option ℕ → Option ℕ → List ℕ → Ended → Made = λ register q flips x.
    record { list = x.list; register = register; q = q; flips = flips; mar = x.term } in
    let by_flips : Option ℕ → Option ℕ → Loaded → Made = λ register q x.
    whole register q x.flips (mar_words m.mar_load board p.mar reading.y x.list) in
    let by_q : Option ℕ → Takes → Made = λ register x. by_flips register x.taken
    (flips_words board m p sp n board.flipflop p.flips (record { list = x.list; bits = x.bits; flips = [] })) in
    let by_register : Takes → Made = λ x. by_q x.taken
    (q_words (destination_of m.instruction) board m p sp n (record { list = x.list; bits = x.bits })) in
    ap by_register (sym h1) ∙ ap (by_q register) (sym h2) ∙ ap (by_flips register q) h3
    ∙ ap (whole register q flips) (sym h4)
