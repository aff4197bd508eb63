-- The operands of an op that fits.
use Rattle.std.proofs.Common.{◌≡◌, ℕ, zero, suc, ◌<◌, List, [], ◌∷◌, Some, length, subst}
use Rattle.std.specs.Prelude.{slice_get}
use Rattle.std.proofs.lemmas.Option.{same_Some}
use Rattle.mw_term.specs.declared.op.Op.{Op}
use Rattle.mw_term.specs.declared.op.Op.TheVariants.{Con, Var, Not, And, Or, Xor, Sum, Cout, Ovf, Eq, Lt, Ite, Part}
use Rattle.mw_term.specs.declared.op.Op.TheVariants.{Join, Tab}
use Rattle.mw_term.specs.Operands.{operands}
use Rattle.mw_term.specs.Table.{OpFits}

one_there : (n a k found : ℕ) → a < n → slice_get (a ∷ []) k ≡ Some found → found < n
one_there n a zero found there is = subst (λ (x : ℕ). x < n) (same_Some a found is) there
one_there n a (suc k) found there is = absurd cc

two_there : (n a b k found : ℕ) → a < n → b < n → slice_get (a ∷ b ∷ []) k ≡ Some found → found < n
two_there n a b zero found there other is = subst (λ (x : ℕ). x < n) (same_Some a found is) there
two_there n a b (suc k) found there other is = one_there n b k found other is

three_there : (n a b c k found : ℕ) → a < n → b < n → c < n → slice_get (a ∷ b ∷ c ∷ []) k ≡ Some found → found < n
three_there n a b c zero found there other third is = subst (λ (x : ℕ). x < n) (same_Some a found is) there
three_there n a b c (suc k) found there other third is = two_there n b c k found other third is

-- each operand of an op that fits is a term
pub operands_there : (map widths : List ℕ) (op : Op) (k found : ℕ) → OpFits map widths op
    → slice_get (operands op) k ≡ Some found → found < length widths
unfolding operands
operands_there map widths (Con number w) k found fits is = absurd cc
operands_there map widths (Var word w) k found fits is = absurd cc
operands_there map widths (Not a) k found fits is = one_there _ a k found fits is
operands_there map widths (And a b) k found fits is = two_there _ a b k found fits.0 fits.1 is
operands_there map widths (Or a b) k found fits is = two_there _ a b k found fits.0 fits.1 is
operands_there map widths (Xor a b) k found fits is = two_there _ a b k found fits.0 fits.1 is
operands_there map widths (Sum a b c) k found fits is = three_there _ a b c k found fits.0.0 fits.0.1 fits.1.0 is
operands_there map widths (Cout a b c) k found fits is = three_there _ a b c k found fits.0.0 fits.0.1 fits.1.0 is
operands_there map widths (Ovf a b c) k found fits is = three_there _ a b c k found fits.0.0 fits.0.1 fits.1.0 is
operands_there map widths (Eq a b) k found fits is = two_there _ a b k found fits.0 fits.1 is
operands_there map widths (Lt a b) k found fits is = two_there _ a b k found fits.0 fits.1 is
operands_there map widths (Ite c a b) k found fits is = three_there _ c a b k found fits.0.0 fits.1.0 fits.1.1 is
operands_there map widths (Part a low w) k found fits is = one_there _ a k found fits.0 is
operands_there map widths (Join high low) k found fits is = two_there _ high low k found fits.0 fits.1 is
operands_there map widths (Tab i) k found fits is = one_there _ i k found fits.0 is
