use Rattle.std.proofs.Common.{ℕ, sym, ◌∙◌, arith, subst}
use Rattle.std.specs.Prelude.{MatchResult}
use Rattle.std.proofs.lemmas.Result.{IfOk-weaker}
use Rattle.mw_term.specs.Rows.{bit}
use Rattle.mw_term.proofs.Tables.{widths_count}
use Rattle.mw_blast.specs.Bits.{AreFor}
use Rattle.mw_blast.specs.Rows.{bit_at, operations_at, IsRefusedAt}
use Rattle.mw_blast.proofs.blast.Blast.pair.Goals as goal

pub bits_of-a-requires-clause-there : goal.bits_of-a-requires-clause-there
bits_of-a-requires-clause-there c = omega (arith, c.requires.ready.pair.0, widths_count c.args.terms.now.ops)

pub bits_of-a-requires-clause-made : goal.bits_of-a-requires-clause-made
bits_of-a-requires-clause-made c = c.requires.ready.first

pub bits_of-a-requires-clause-of : goal.bits_of-a-requires-clause-of
bits_of-a-requires-clause-of c = (c.args.dds.now, c.requires.ready.of)

pub bits_of-b-requires-clause-there : goal.bits_of-b-requires-clause-there
bits_of-b-requires-clause-there c = omega (arith, c.requires.ready.pair.1, widths_count c.args.terms.now.ops)

pub bits_of-b-requires-clause-made : goal.bits_of-b-requires-clause-made
bits_of-b-requires-clause-made c = c.requires.ready.second

pub bits_of-b-requires-clause-of : goal.bits_of-b-requires-clause-of
bits_of-b-requires-clause-of c = (c.args.dds.now, c.requires.ready.of)

pub word-requires-clause-width : goal.word-requires-clause-width
word-requires-clause-width c =
    let a = c.bits_of-a.ensures.are c.args.dds.now c.requires.ready.of in
    let b = c.bits_of-b.ensures.are c.args.dds.now c.requires.ready.of in
    a.count ∙ c.requires.ready.pair.2 ∙ sym b.count

pub word-requires-clause-a : goal.word-requires-clause-a
word-requires-clause-a c =
    λ j inside. ((c.bits_of-a.ensures.are c.args.dds.now c.requires.ready.of).each j inside).there

pub word-requires-clause-b : goal.word-requires-clause-b
word-requires-clause-b c =
    λ j inside. ((c.bits_of-b.ensures.are c.args.dds.now c.requires.ready.of).each j inside).there

pub returns-clause-count : goal.returns-clause-count
returns-clause-count c =
    let a = c.bits_of-a.ensures.are c.args.dds.now c.requires.ready.of in
    IfOk-weaker c.word.result _ _ (λ v count. count ∙ a.count) c.word.ensures.count

pub returns-clause-made : goal.returns-clause-made
returns-clause-made c = λ K k.
    let t = c.args.terms.now in
    let x = bit t c.args.a in
    let y = bit t c.args.b in
    let a = c.bits_of-a.ensures.are c.args.dds.now c.requires.ready.of in
    let b = c.bits_of-b.ensures.are c.args.dds.now c.requires.ready.of in
    subst (λ (n : ℕ). MatchResult c.word.result (λ v. AreFor c.word.new.dds n (bit_at c.args.row x y K) v.items)
    (IsRefusedAt (operations_at c.args.row x y K) n c.args.budget)) a.count
    (c.word.ensures.made x y K a.each b.each k)
