use Rattle.std.proofs.Common.{◌≡◌, ℕ, ◌-◌, ◌<◌, ◌≤◌, List, length, slice_index, ap, sym, arith, subst}
use Rattle.std.proofs.lemmas.List.{get_or_read}
use Rattle.mw_term.specs.declared.op.Op.TheVariants.{Ovf}
use Rattle.mw_term.specs.Functions.{Function, made}
use Rattle.mw_term.specs.Rows.{bit, difference, xor_row, row, bit_made}
use Rattle.mw_term.specs.Table.{term_width}
use Rattle.mw_blast.specs.declared.rows.Row.TheVariants.{Carry}
use Rattle.mw_blast.specs.Bits.{StandsFor, StandEach}
use Rattle.mw_blast.specs.Rows.{carried, bit_at, IsRefused, IsRefusedAt, fault_at}
use Rattle.mw_blast.proofs.Bits.{stays}
use Rattle.mw_blast.proofs.Operations.{handed_on}
use Rattle.mw_blast.proofs.Ops.{one_stands, overflow_refused, overflow_last, overflow_made}
use Rattle.mw_blast.proofs.blast.Blast.overflow.Goals as goal

pub returns-in_err-carries-clause-made : goal.returns-in_err-carries-clause-made
returns-in_err-carries-clause-made c = λ m k.
    let t = c.args.terms.now in
    handed_on c.from_residual.result c.in_err-carries.field-0.0 _
    (IsRefusedAt (row t (Ovf c.args.a c.args.b m)) (term_width t c.args.a) c.args.budget) c.from_residual.ensures.1
    (overflow_refused t c.args.a c.args.b m c.args.budget c.in_err-carries.field-0.0
    (c.in_err-carries.ensures.made (bit t m 0) k))

pub returns-in-Ok-clause-made : goal.returns-in-Ok-clause-made
returns-in-Ok-clause-made c = λ m k.
    let t = c.args.terms.now in
    let w = term_width t c.args.a in
    let now = c.pair.new.dds in
    let new = c.difference.new.dds in
    let out_of = bit_at Carry (bit t c.args.a) (bit t c.args.b) (bit t m 0) in
    let into_of = carried Carry (bit t c.args.a) (bit t c.args.b) (bit t m 0) in
    let xs = c.in_ok-carries.carries.items in
    let are = c.in_ok-carries.ensures.made (bit t m 0) k in
    let some : 1 ≤ w = omega (arith, c.width-top.ensures.exact, c.width-top.ensures.range.0) in
    let top : ℕ = c.width-top.result - 1 in
    let same : top ≡ w - 1 = ap (λ (n : ℕ). n - 1) c.width-top.ensures.exact in
    let inside : top < length xs = omega (arith, are.count, c.width-top.ensures.exact, c.width-top.ensures.range.0) in
    let at : c.index.result.now ≡ slice_index xs top = get_or_read xs top c.index.result.now inside c.index.ensures 0 in
    let into = c.carry_into-into.ensures.made now (bit t c.args.a) (bit t c.args.b) (bit t m 0)
    (stays _ _ _ (bit t m 0) c.pair.ensures.keeps k)
    (subst (λ (ys : List ℕ). StandEach now ys out_of) (sym c.deref.ensures.value) are.each) in
    let out : StandsFor now c.index.result.now (out_of top) = rw at (are.each top inside) in
    one_stands new (bit_made t (Ovf c.args.a c.args.b m)) c.in_ok-single-in-Ok.field-0.items c.in-Ok.bit
    c.in_ok-single-in-Ok.ensures
    (subst (λ (f : Function). StandsFor new c.in-Ok.bit f) (overflow_made t c.args.a c.args.b m 0 some)
    (subst (λ (n : ℕ). StandsFor new c.in-Ok.bit (made (difference (into_of n) (out_of n)))) same
    (c.in-Ok.ensures.made (into_of top) (out_of top) into out)))

pub returns-clause-made : goal.returns-clause-made
returns-clause-made c = λ m k.
    let t = c.args.terms.now in
    let w = term_width t c.args.a in
    let now = c.pair.new.dds in
    let out_of = bit_at Carry (bit t c.args.a) (bit t c.args.b) (bit t m 0) in
    let into_of = carried Carry (bit t c.args.a) (bit t c.args.b) (bit t m 0) in
    let xs = c.in_ok-carries.carries.items in
    let are = c.in_ok-carries.ensures.made (bit t m 0) k in
    let some : 1 ≤ w = omega (arith, c.width-top.ensures.exact, c.width-top.ensures.range.0) in
    let top : ℕ = c.width-top.result - 1 in
    let same : top ≡ w - 1 = ap (λ (n : ℕ). n - 1) c.width-top.ensures.exact in
    let inside : top < length xs = omega (arith, are.count, c.width-top.ensures.exact, c.width-top.ensures.range.0) in
    let at : c.index.result.now ≡ slice_index xs top = get_or_read xs top c.index.result.now inside c.index.ensures 0 in
    let into = c.carry_into-into.ensures.made now (bit t c.args.a) (bit t c.args.b) (bit t m 0)
    (stays _ _ _ (bit t m 0) c.pair.ensures.keeps k)
    (subst (λ (ys : List ℕ). StandEach now ys out_of) (sym c.deref.ensures.value) are.each) in
    let out : StandsFor now c.index.result.now (out_of top) = rw at (are.each top inside) in
    rw c.at.ensures
    (subst (λ (n : ℕ). IsRefusedAt (row t (Ovf c.args.a c.args.b m)) w c.args.budget (fault_at n c.in-Err.fault))
    (sym same) (overflow_last t c.args.a c.args.b m c.args.budget c.in-Err.fault some
    (subst (λ (n : ℕ). IsRefused (xor_row (into_of n) (out_of n)) c.args.budget c.in-Err.fault) same
    (c.in-Err.ensures.made (into_of top) (out_of top) into out))))
