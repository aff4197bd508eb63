use Rattle.std.proofs.Common.{◌≡◌, ℕ, ◌-◌, ◌<◌, length, slice_index, ap, arith, subst}
use Rattle.std.proofs.lemmas.List.{get_or_read}
use Rattle.mw_term.specs.Rows.{bit}
use Rattle.mw_term.specs.Table.{term_width}
use Rattle.mw_blast.specs.declared.fault.RowFault.TheVariants.{NoMemory}
use Rattle.mw_blast.specs.Bits.{StandsFor}
use Rattle.mw_blast.specs.Rows.{bit_at}
use Rattle.mw_blast.proofs.Operations.{handed_on}
use Rattle.mw_blast.proofs.Ops.{one_stands}
use Rattle.mw_blast.proofs.blast.Blast.top.Goals as goal

pub returns-in_err-bits-clause-made : goal.returns-in_err-bits-clause-made
returns-in_err-bits-clause-made c = λ K k.
    handed_on c.from_residual.result _ _ _ c.from_residual.ensures.1 (c.in_err-bits.ensures.made K k)

pub returns-in_err-single-clause-made : goal.returns-in_err-single-clause-made
returns-in_err-single-clause-made c = λ K k.
    handed_on c.from_residual-in_err-single.result NoMemory _ _ c.from_residual-in_err-single.ensures.1 tt

pub returns-clause-made : goal.returns-clause-made
returns-clause-made c = λ K k.
    let t = c.args.terms.now in
    let w = term_width t c.args.a in
    let xs = c.in_ok-bits.bits.items in
    let are = c.in_ok-bits.ensures.made K k in
    let top : ℕ = c.width-top.result - 1 in
    let same : top ≡ w - 1 = ap (λ (n : ℕ). n - 1) c.width-top.ensures.exact in
    let inside : top < length xs = omega (arith, are.count, c.width-top.ensures.exact, c.width-top.ensures.range.0) in
    let at : c.index.result.now ≡ slice_index xs top = get_or_read xs top c.index.result.now inside c.index.ensures 0 in
    one_stands c.pair.new.dds (λ j. bit_at c.args.row (bit t c.args.a) (bit t c.args.b) K (w - 1))
    c.in_ok-single.field-0.items c.index.result.now c.in_ok-single.ensures
    (subst
    (λ (n : ℕ). StandsFor c.pair.new.dds c.index.result.now (bit_at c.args.row (bit t c.args.a) (bit t c.args.b) K n))
    same (rw at (are.each top inside)))
