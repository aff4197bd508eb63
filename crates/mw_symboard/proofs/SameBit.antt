-- Bits that were made, found again.
use Rattle.std.proofs.Common.{◌≡◌, ℕ, suc, List, [], ◌∷◌, ap, refl, sym}
use Rattle.std.proofs.lemmas.Bool.{eqb-true}
use Rattle.std.proofs.lemmas.Option.{none-some, same_Some}
use Rattle.std.proofs.lemmas.Bool as bool
use Rattle.std.specs.Prelude.{Bool, true, false, if◌then◌else◌, Some, slice_get}
use Rattle.mw_board.specs.declared.bit.Bit.{Bit}
use Rattle.mw_board.specs.declared.bit.Bit.TheVariants as bits
use Rattle.mw_cycle.specs.ReadingWords.{MadeBit, made_term, same_bit}

-- bits that the test holds to be one are one
pub bit_is : (a b : Bit) → same_bit a b ≡ true → a ≡ b
bit_is bits.Zero bits.Zero same = refl
bit_is bits.One bits.One same = refl
bit_is bits.Carry bits.Carry same = refl
bit_is bits.Overflow bits.Overflow same = refl
bit_is bits.FZero bits.FZero same = refl
bit_is bits.Sign bits.Sign same = refl
bit_is bits.FLow bits.FLow same = refl
bit_is bits.FHigh bits.FHigh same = refl
bit_is bits.QLow bits.QLow same = refl
bit_is bits.QHigh bits.QHigh same = refl
bit_is bits.Line bits.Line same = refl
bit_is bits.Full bits.Full same = refl
bit_is (bits.Ir m) (bits.Ir n) same = ap bits.Ir (eqb-true m n same)
bit_is (bits.Flip m) (bits.Flip n) same = ap bits.Flip (eqb-true m n same)
bit_is a b same = absurd (bool.both_ways false refl same)

-- a bit of a list, as it was made
abbrev pub IsMadeIn : List MadeBit → Bit → (term : ℕ) → Type 0
IsMadeIn made bit term = (k : ℕ) × (m : MadeBit) × (slice_get made k ≡ Some m) × (m.bit ≡ bit) × (m.term ≡ term)

-- one behind another bit
further : (m : MadeBit) (made : List MadeBit) (bit : Bit) (term : ℕ)
    → IsMadeIn made bit term → IsMadeIn (m ∷ made) bit term
further m made bit term is = (suc is.0, is.1, is.2, is.3, is.4)

by_first : (m : MadeBit) (made : List MadeBit) (bit : Bit) (term : ℕ) → (b : Bool) → same_bit m.bit bit ≡ b
    → Some term ≡ (if b then Some m.term else made_term made bit)
    → (Some term ≡ made_term made bit → IsMadeIn made bit term) → IsMadeIn (m ∷ made) bit term
by_first m made bit term true same found later = (0, m, refl, bit_is m.bit bit same, sym (same_Some term m.term found))
by_first m made bit term false same found later = further m made bit term (later found)

-- a bit that is found is one of the list
pub made_there : (made : List MadeBit) (bit : Bit) (term : ℕ) → Some term ≡ made_term made bit → IsMadeIn made bit term
made_there [] bit term found = absurd (none-some term (sym found))
made_there (m ∷ made) bit term found =
    by_first m made bit term (same_bit m.bit bit) refl found (made_there made bit term)
