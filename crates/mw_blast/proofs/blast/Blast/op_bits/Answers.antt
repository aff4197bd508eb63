use Rattle.std.proofs.Common.{ℕ, ◌+◌, ◌≤◌, List, length, refl, arith, subst}
use Rattle.mw_term.specs.declared.op.Op.TheVariants.{Not, And, Or, Xor, Sum, Cout, Eq, Lt, Ite}
use Rattle.mw_term.specs.Functions.{never, always}
use Rattle.std.specs.Prelude.{MatchResult}
use Rattle.mw_term.specs.Rows.{bit, last_made}
use Rattle.mw_term.specs.Table.{term_width}
use Rattle.mw_term.proofs.Tables.{widths_count, widths_range}
use Rattle.mw_blast.specs.declared.rows.Row.TheVariants as rows
use Rattle.mw_blast.specs.Bits.{AreFor}
use Rattle.mw_blast.specs.Entries.{entry_row}
use Rattle.mw_blast.specs.Rows.{IsRefusedAt}
use Rattle.mw_term.specs.Operands.{operands}
use Rattle.mw_blast.proofs.Ops.{ready_two, two_made, makes, not_makes, and_makes, or_makes, xor_makes, sum_makes}
use Rattle.mw_blast.proofs.Ops.{choice_makes}
use Rattle.mw_blast.proofs.Ops.{makes_top, out_makes, equal_makes, less_makes, overflow_makes, constant_made}
use Rattle.mw_blast.proofs.Ops.{variable_made, part_slice, part_made, join_made, entry_makes}
use Rattle.mw_blast.proofs.blast.Blast.op_bits.Goals as goal

pub pair-requires-clause-ready : goal.pair-requires-clause-ready
unfolding operands
pair-requires-clause-ready c =
    let are = rw c.in-Not.is at c.requires.made in
    let fits = rw c.in-Not.is at c.requires.fits in
    let a = c.in-Not.a in
    ready_two c.args.terms.now c.args.dds.now c.args.self.now a a (fits, fits, refl)
    (two_made c.args.self.now a a (are 0 0 (omega arith)) (are 0 0 (omega arith))) c.requires.of

pub pair-requires-in-And-clause-ready : goal.pair-requires-in-And-clause-ready
unfolding operands
pair-requires-in-And-clause-ready c =
    let are = rw c.in-And.is at c.requires.made in
    let fits = rw c.in-And.is at c.requires.fits in
    ready_two c.args.terms.now c.args.dds.now c.args.self.now c.in-And.a c.in-And.b fits are c.requires.of

pub pair-requires-in-Or-clause-ready : goal.pair-requires-in-Or-clause-ready
unfolding operands
pair-requires-in-Or-clause-ready c =
    let are = rw c.in-Or.is at c.requires.made in
    let fits = rw c.in-Or.is at c.requires.fits in
    ready_two c.args.terms.now c.args.dds.now c.args.self.now c.in-Or.a c.in-Or.b fits are c.requires.of

pub pair-requires-in-Xor-clause-ready : goal.pair-requires-in-Xor-clause-ready
unfolding operands
pair-requires-in-Xor-clause-ready c =
    let are = rw c.in-Xor.is at c.requires.made in
    let fits = rw c.in-Xor.is at c.requires.fits in
    ready_two c.args.terms.now c.args.dds.now c.args.self.now c.in-Xor.a c.in-Xor.b fits are c.requires.of

pub pair-requires-in-Sum-clause-ready : goal.pair-requires-in-Sum-clause-ready
unfolding operands
pair-requires-in-Sum-clause-ready c =
    let are = rw c.in-Sum.is at c.requires.made in
    let fits = rw c.in-Sum.is at c.requires.fits in
    ready_two c.args.terms.now c.args.dds.now c.args.self.now c.in-Sum.a c.in-Sum.b fits.0
    (two_made c.args.self.now c.in-Sum.a c.in-Sum.b (are 0 0 (omega arith)) (are 1 0 (omega arith))) c.requires.of

pub top-requires-clause-ready : goal.top-requires-clause-ready
unfolding operands
top-requires-clause-ready c =
    let are = rw c.in-Cout.is at c.requires.made in
    let fits = rw c.in-Cout.is at c.requires.fits in
    ready_two c.args.terms.now c.args.dds.now c.args.self.now c.in-Cout.a c.in-Cout.b fits.0
    (two_made c.args.self.now c.in-Cout.a c.in-Cout.b (are 0 0 (omega arith)) (are 1 0 (omega arith))) c.requires.of

pub overflow-requires-clause-ready : goal.overflow-requires-clause-ready
unfolding operands
overflow-requires-clause-ready c =
    let are = rw c.in-Ovf.is at c.requires.made in
    let fits = rw c.in-Ovf.is at c.requires.fits in
    ready_two c.args.terms.now c.args.dds.now c.args.self.now c.in-Ovf.a c.in-Ovf.b fits.0
    (two_made c.args.self.now c.in-Ovf.a c.in-Ovf.b (are 0 0 (omega arith)) (are 1 0 (omega arith))) c.requires.of

pub top-requires-in-Eq-clause-ready : goal.top-requires-in-Eq-clause-ready
unfolding operands
top-requires-in-Eq-clause-ready c =
    let are = rw c.in-Eq.is at c.requires.made in
    let fits = rw c.in-Eq.is at c.requires.fits in
    ready_two c.args.terms.now c.args.dds.now c.args.self.now c.in-Eq.a c.in-Eq.b fits are c.requires.of

pub top-requires-in-Lt-clause-ready : goal.top-requires-in-Lt-clause-ready
unfolding operands
top-requires-in-Lt-clause-ready c =
    let are = rw c.in-Lt.is at c.requires.made in
    let fits = rw c.in-Lt.is at c.requires.fits in
    ready_two c.args.terms.now c.args.dds.now c.args.self.now c.in-Lt.a c.in-Lt.b fits are c.requires.of

pub pair-requires-in-Ite-clause-ready : goal.pair-requires-in-Ite-clause-ready
unfolding operands
pair-requires-in-Ite-clause-ready c =
    let are = rw c.in-Ite.is at c.requires.made in
    let fits = rw c.in-Ite.is at c.requires.fits in
    ready_two c.args.terms.now c.args.dds.now c.args.self.now c.in-Ite.a c.in-Ite.b fits.1
    (two_made c.args.self.now c.in-Ite.a c.in-Ite.b (are 1 0 (omega arith)) (are 2 0 (omega arith))) c.requires.of

pub returns-in-Not-clause-made : goal.returns-in-Not-clause-made
returns-in-Not-clause-made c =
    let t = c.args.terms.now in
    rw c.in-Not.is
    (makes t (Not c.in-Not.a) rows.Not (bit t c.in-Not.a) (bit t c.in-Not.a) never (term_width t c.in-Not.a)
    (not_makes t c.in-Not.a) c.pair.new.dds c.args.budget c.pair.result (λ v. v.items) (c.pair.ensures.made never
    (record { there = c.constant-never.ensures.there; exact = c.constant-never.ensures.exact })))

pub returns-in-And-clause-made : goal.returns-in-And-clause-made
returns-in-And-clause-made c =
    let t = c.args.terms.now in
    rw c.in-And.is
    (makes t (And c.in-And.a c.in-And.b) rows.And (bit t c.in-And.a) (bit t c.in-And.b) never (term_width t c.in-And.a)
    (and_makes t c.in-And.a c.in-And.b)
    c.pair-in-And.new.dds c.args.budget c.pair-in-And.result (λ v. v.items) (c.pair-in-And.ensures.made never
    (record { there = c.constant-never.ensures.there; exact = c.constant-never.ensures.exact })))

pub returns-in-Or-clause-made : goal.returns-in-Or-clause-made
returns-in-Or-clause-made c =
    let t = c.args.terms.now in
    rw c.in-Or.is
    (makes t (Or c.in-Or.a c.in-Or.b) rows.Or (bit t c.in-Or.a) (bit t c.in-Or.b) never (term_width t c.in-Or.a)
    (or_makes t c.in-Or.a c.in-Or.b)
    c.pair-in-Or.new.dds c.args.budget c.pair-in-Or.result (λ v. v.items) (c.pair-in-Or.ensures.made never
    (record { there = c.constant-never.ensures.there; exact = c.constant-never.ensures.exact })))

pub returns-in-Xor-clause-made : goal.returns-in-Xor-clause-made
returns-in-Xor-clause-made c =
    let t = c.args.terms.now in
    rw c.in-Xor.is
    (makes t (Xor c.in-Xor.a c.in-Xor.b) rows.Xor (bit t c.in-Xor.a) (bit t c.in-Xor.b) never (term_width t c.in-Xor.a)
    (xor_makes t c.in-Xor.a c.in-Xor.b)
    c.pair-in-Xor.new.dds c.args.budget c.pair-in-Xor.result (λ v. v.items) (c.pair-in-Xor.ensures.made never
    (record { there = c.constant-never.ensures.there; exact = c.constant-never.ensures.exact })))

pub returns-in-Sum-clause-made : goal.returns-in-Sum-clause-made
returns-in-Sum-clause-made c =
    let t = c.args.terms.now in
    rw c.in-Sum.is
    (makes t (Sum c.in-Sum.a c.in-Sum.b c.in-Sum.c) rows.Sum (bit t c.in-Sum.a) (bit t c.in-Sum.b) (bit t c.in-Sum.c 0)
    (term_width t c.in-Sum.a) (sum_makes t c.in-Sum.a c.in-Sum.b c.in-Sum.c)
    c.pair-in-Sum.new.dds c.args.budget c.pair-in-Sum.result (λ v. v.items)
    (c.pair-in-Sum.ensures.made (bit t c.in-Sum.c 0) (c.bit-into.ensures c.args.dds.now c.requires.of)))

pub returns-in-Cout-clause-made : goal.returns-in-Cout-clause-made
returns-in-Cout-clause-made c =
    let t = c.args.terms.now in
    rw c.in-Cout.is
    (makes_top t (Cout c.in-Cout.a c.in-Cout.b c.in-Cout.c) rows.Carry (bit t c.in-Cout.a) (bit t c.in-Cout.b)
    (bit t c.in-Cout.c 0) (term_width t c.in-Cout.a) (out_makes t c.in-Cout.a c.in-Cout.b c.in-Cout.c)
    c.top.ensures.some c.top.new.dds c.args.budget c.top.result (λ v. v.items) (c.top.ensures.made (bit t c.in-Cout.c 0)
    (c.bit-into-in-Cout.ensures c.args.dds.now c.requires.of)))

pub returns-in-Ovf-clause-made : goal.returns-in-Ovf-clause-made
returns-in-Ovf-clause-made c =
    let t = c.args.terms.now in
    rw c.in-Ovf.is
    (overflow_makes t c.in-Ovf.a c.in-Ovf.b c.in-Ovf.c c.overflow.new.dds c.args.budget c.overflow.result (λ v. v.items)
    (c.overflow.ensures.made c.in-Ovf.c (c.bit-into-in-Ovf.ensures c.args.dds.now c.requires.of)))

pub returns-in-Eq-clause-made : goal.returns-in-Eq-clause-made
returns-in-Eq-clause-made c =
    let t = c.args.terms.now in
    rw c.in-Eq.is
    (makes_top t (Eq c.in-Eq.a c.in-Eq.b) rows.Equal (bit t c.in-Eq.a) (bit t c.in-Eq.b) always (term_width t c.in-Eq.a)
    (equal_makes t c.in-Eq.a c.in-Eq.b) c.top-in-Eq.ensures.some
    c.top-in-Eq.new.dds c.args.budget c.top-in-Eq.result (λ v. v.items) (c.top-in-Eq.ensures.made always
    (record { there = c.constant-always.ensures.there; exact = c.constant-always.ensures.exact })))

pub returns-in-Lt-clause-made : goal.returns-in-Lt-clause-made
returns-in-Lt-clause-made c =
    let t = c.args.terms.now in
    rw c.in-Lt.is
    (makes_top t (Lt c.in-Lt.a c.in-Lt.b) rows.Less (bit t c.in-Lt.a) (bit t c.in-Lt.b) never (term_width t c.in-Lt.a)
    (less_makes t c.in-Lt.a c.in-Lt.b) c.top-in-Lt.ensures.some
    c.top-in-Lt.new.dds c.args.budget c.top-in-Lt.result (λ v. v.items) (c.top-in-Lt.ensures.made never
    (record { there = c.constant-never.ensures.there; exact = c.constant-never.ensures.exact })))

pub returns-in-Ite-clause-made : goal.returns-in-Ite-clause-made
returns-in-Ite-clause-made c =
    let t = c.args.terms.now in
    rw c.in-Ite.is
    (makes t (Ite c.in-Ite.c c.in-Ite.a c.in-Ite.b) rows.Choice (bit t c.in-Ite.a) (bit t c.in-Ite.b)
    (bit t c.in-Ite.c 0) (term_width t c.in-Ite.a) (choice_makes t c.in-Ite.c c.in-Ite.a c.in-Ite.b)
    c.pair-in-Ite.new.dds c.args.budget c.pair-in-Ite.result (λ v. v.items)
    (c.pair-in-Ite.ensures.made (bit t c.in-Ite.c 0) (c.bit-chosen.ensures c.args.dds.now c.requires.of)))

pub bit-into-requires-clause-made : goal.bit-into-requires-clause-made
unfolding operands
bit-into-requires-clause-made c = (rw c.in-Sum.is at c.requires.made) 2 0 (omega arith)

pub bit-into-requires-in-Cout-clause-made : goal.bit-into-requires-in-Cout-clause-made
unfolding operands
bit-into-requires-in-Cout-clause-made c = (rw c.in-Cout.is at c.requires.made) 2 0 (omega arith)

pub bit-into-requires-in-Ovf-clause-made : goal.bit-into-requires-in-Ovf-clause-made
unfolding operands
bit-into-requires-in-Ovf-clause-made c = (rw c.in-Ovf.is at c.requires.made) 2 0 (omega arith)

pub bit-chosen-requires-clause-made : goal.bit-chosen-requires-clause-made
unfolding operands
bit-chosen-requires-clause-made c = (rw c.in-Ite.is at c.requires.made) 0 0 (omega arith)

pub bits_of-bits-requires-clause-there : goal.bits_of-bits-requires-clause-there
bits_of-bits-requires-clause-there c =
    let fits = rw c.in-Part.is at c.requires.fits in
    omega (arith, fits.0, widths_count c.args.terms.now.ops)

pub bits_of-bits-requires-clause-made : goal.bits_of-bits-requires-clause-made
unfolding operands
bits_of-bits-requires-clause-made c = (rw c.in-Part.is at c.requires.made) 0 0 (omega arith)

pub bits_of-above-requires-clause-there : goal.bits_of-above-requires-clause-there
bits_of-above-requires-clause-there c =
    let fits = rw c.in-Join.is at c.requires.fits in
    omega (arith, fits.0, widths_count c.args.terms.now.ops)

pub bits_of-above-requires-clause-made : goal.bits_of-above-requires-clause-made
unfolding operands
bits_of-above-requires-clause-made c = (rw c.in-Join.is at c.requires.made) 0 0 (omega arith)

pub bits_of-below-requires-clause-there : goal.bits_of-below-requires-clause-there
bits_of-below-requires-clause-there c =
    let fits = rw c.in-Join.is at c.requires.fits in
    omega (arith, fits.1, widths_count c.args.terms.now.ops)

pub bits_of-below-requires-clause-made : goal.bits_of-below-requires-clause-made
unfolding operands
bits_of-below-requires-clause-made c = (rw c.in-Join.is at c.requires.made) 1 0 (omega arith)

pub bits_of-chosen-requires-clause-there : goal.bits_of-chosen-requires-clause-there
bits_of-chosen-requires-clause-there c =
    let fits = rw c.in-Tab.is at c.requires.fits in
    omega (arith, fits.0, widths_count c.args.terms.now.ops)

pub bits_of-chosen-requires-clause-made : goal.bits_of-chosen-requires-clause-made
unfolding operands
bits_of-chosen-requires-clause-made c = (rw c.in-Tab.is at c.requires.made) 0 0 (omega arith)

pub entry-requires-clause-some : goal.entry-requires-clause-some
entry-requires-clause-some c =
    let fits = rw c.in-Tab.is at c.requires.fits in
    let wide = widths_range c.args.terms.now c.map.ensures.table c.in-Tab.index fits.0 in
    omega (arith, wide.0, (c.bits_of-chosen.ensures.are c.args.dds.now c.requires.of).count)

pub returns-in_ok-constants-in-Con-clause-made : goal.returns-in_ok-constants-in-Con-clause-made
returns-in_ok-constants-in-Con-clause-made c = rw c.in-Con.is
    (constant_made c.args.terms.now c.args.dds.now c.in-Con.number c.in-Con.width c.in_ok-constants-in-Con.field-0.items
    c.in_ok-constants-in-Con.ensures)

pub returns-in_ok-variables-in-Var-clause-made : goal.returns-in_ok-variables-in-Var-clause-made
returns-in_ok-variables-in-Var-clause-made c = rw c.in-Var.is
    (variable_made c.args.terms.now c.variables.new.dds c.in-Var.word c.in-Var.width
    c.in_ok-variables-in-Var.field-0.items c.in_ok-variables-in-Var.ensures.made)

pub part-requires : goal.part-requires
part-requires c =
    let fits = rw c.in-Part.is at c.requires.fits in
    omega (arith, fits.2, (c.bits_of-bits.ensures.are c.args.dds.now c.requires.of).count)

pub returns-in_ok-part-in-Part-clause-made : goal.returns-in_ok-part-in-Part-clause-made
returns-in_ok-part-in-Part-clause-made c =
    let t = c.args.terms.now in
    let fits = rw c.in-Part.is at c.requires.fits in
    let xs = c.bits_of-bits.result.now in
    let are = c.bits_of-bits.ensures.are c.args.dds.now c.requires.of in
    let within : c.in-Part.low + c.in-Part.width ≤ length xs = omega (arith, fits.2, are.count) in
    let cut = part_slice xs c.in_ok-part-in-Part.field-0.items c.in-Part.low c.in-Part.width within
    c.in_ok-part-in-Part.ensures in
    rw c.in-Part.is
    (part_made t c.args.dds.now c.in-Part.a c.in-Part.low c.in-Part.width xs c.in_ok-part-in-Part.field-0.items are
    cut.0 within cut.1)

pub returns-in_ok-joined-in-Join-clause-made : goal.returns-in_ok-joined-in-Join-clause-made
returns-in_ok-joined-in-Join-clause-made c = rw (c.in-Join.is, c.in_ok-joined-in-Join.ensures)
    (join_made c.args.terms.now c.args.dds.now c.in-Join.high c.in-Join.low c.bits_of-above.result.now
    c.bits_of-below.result.now (c.bits_of-above.ensures.are c.args.dds.now c.requires.of)
    (c.bits_of-below.ensures.are c.args.dds.now c.requires.of))

pub returns-in-Tab-clause-made : goal.returns-in-Tab-clause-made
returns-in-Tab-clause-made c =
    let t = c.args.terms.now in
    let are = c.bits_of-chosen.ensures.are c.args.dds.now c.requires.of in
    let n = length c.bits_of-chosen.result.now in
    let index = bit t c.in-Tab.index in
    rw c.in-Tab.is
    (entry_makes t c.in-Tab.index n are.count c.entry.new.dds c.args.budget c.entry.result (λ v. v.items)
    (subst (λ (numbers : List ℕ). MatchResult c.entry.result
    (λ v. AreFor c.entry.new.dds 12 (λ j. last_made (entry_row index n numbers j)) v.items)
    (IsRefusedAt (entry_row index n numbers) 12 c.args.budget)) c.map.ensures.exact
    (c.entry.ensures.made index are.each)))
