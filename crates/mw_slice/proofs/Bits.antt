-- The bits of F.
use Rattle.std.proofs.Common.{◌≡◌, ℕ, ◌+◌, ◌%◌, ◌^◌, ◌<◌, refl, ap, ap₂, ◌∙◌, sym}
use Rattle.std.specs.Prelude.{Bool, true, not, ◌&&◌, bit_xor}
use Rattle.std.proofs.lemmas.Nat.{xor_lt}
use Rattle.mw_base.specs.Carries.{carry_at}
use Rattle.mw_base.specs.Words.{num, bit_of, differ, complement}
use Rattle.mw_base.proofs.Bits.{bit_of-low, bit_of-or, bit_of-and, bit_of-xor, bit_of-complement}
use Rattle.mw_base.proofs.Carries.{sum_bit}
use Rattle.mw_alu.specs.declared.instruction.Function.{Function}
use Rattle.mw_alu.specs.declared.instruction.Function.TheVariants.{Add, Subr, Subs, Or, And, Notrs, Exor, Exnor}
use Rattle.mw_alu.specs.WholeWord.{is_sum, addend_r, addend_s, f_of}
use Rattle.mw_slice.specs.Slice.{f_bit}

-- a bit of F, where a sum has the carry into it
pub bit_of-f : (function : Function) (w r s : ℕ) (c into : Bool) (i : ℕ) → i < w → r < 2 ^ w → s < 2 ^ w
    → (is_sum function ≡ true → into ≡ carry_at (addend_r function w r) (addend_s function w s) c i)
    → f_bit function (bit_of r i) (bit_of s i) into ≡ bit_of (f_of function w r s c) i
unfolding f_of
bit_of-f Or w r s c into i below in_r in_s carried = sym (bit_of-or r s i)
bit_of-f And w r s c into i below in_r in_s carried = sym (bit_of-and r s i)
bit_of-f Notrs w r s c into i below in_r in_s carried =
    sym (bit_of-and (complement w r) s i ∙ ap (λ (b : Bool). b && bit_of s i) (bit_of-complement w r i below in_r))
bit_of-f Exor w r s c into i below in_r in_s carried = sym (bit_of-xor r s i)
bit_of-f Exnor w r s c into i below in_r in_s carried =
    sym (bit_of-complement w (bit_xor r s) i below (xor_lt w r s in_r in_s) ∙ ap not (bit_of-xor r s i))
bit_of-f Add w r s c into i below in_r in_s carried =
    ap (differ (differ (bit_of r i) (bit_of s i))) (carried refl)
    ∙ sym (bit_of-low (r + s + num c) w i below ∙ sum_bit r s c i)
bit_of-f Subr w r s c into i below in_r in_s carried =
    let turned : ℕ = complement w r in
    ap₂ (λ (b into : Bool). differ (differ b (bit_of s i)) into)
    (sym (bit_of-complement w r i below in_r)) (carried refl)
    ∙ sym (bit_of-low (turned + s + num c) w i below ∙ sum_bit turned s c i)
bit_of-f Subs w r s c into i below in_r in_s carried =
    let turned : ℕ = complement w s in
    ap₂ (λ (b into : Bool). differ (differ (bit_of r i) b) into)
    (sym (bit_of-complement w s i below in_s)) (carried refl)
    ∙ sym (bit_of-low (r + turned + num c) w i below ∙ sum_bit r turned c i)
