-- Variables that are fixed.
use Rattle.std.proofs.Common.{◌≡◌, ℕ, ◌+◌, ◌-◌, ◌*◌, ◌/◌, ◌%◌, ◌^◌, ap, arith, sym, ◌∙◌, inl, inr}
use Rattle.std.specs.Prelude.{Bool, true, false, ◌&&◌, ◌||◌, ◌==◌, nat_lt, if◌then◌else◌}
use Rattle.std.proofs.lemmas.Bool.{lt-ltb, le-ltb, cases_lt}
use Rattle.std.proofs.lemmas.Bool.Decides.{nat_tests}
use Rattle.std.proofs.lemmas.Nat.{mod_below, pow_pos, shr-shr}
use Rattle.mw_base.specs.Words.{bit_of}
use Rattle.mw_base.proofs.Bits.{bit_of-low}
use Rattle.mw_term.specs.Cofactors.{with_fixed, bits_before}
use Rattle.mw_term.specs.Laws.{FixedAreBefore}
use Rattle.mw_term.proofs.Rows.{joined_bit}

-- the low n bits of a number replaced: a bit
replaced : (f g n j : ℕ) → bit_of (g / 2 ^ n * 2 ^ n + f % 2 ^ n) j ≡ (if nat_lt j n then bit_of f j else bit_of g j)
replaced f g n j = joined_bit (g / 2 ^ n) (f % 2 ^ n) n j (mod_below f (2 ^ n) (pow_pos n)) ∙ elim (cases_lt j n) [
  | inl inside ↦
      ap (λ (b : Bool). if b then bit_of (f % 2 ^ n) j else bit_of (g / 2 ^ n) (j - n)) (lt-ltb j n inside)
      ∙ bit_of-low f n j inside
      ∙ ap (λ (b : Bool). if b then bit_of f j else bit_of g j) (sym (lt-ltb j n inside))
  | inr past ↦
      let whole : n + (j - n) ≡ j = omega arith in
      ap (λ (b : Bool). if b then bit_of (f % 2 ^ n) j else bit_of (g / 2 ^ n) (j - n)) (le-ltb j n past)
      ∙ ap (λ (x : ℕ). x % 2 == 1) (shr-shr g n (j - n) ∙ ap (λ (k : ℕ). g / 2 ^ k) whole)
      ∙ ap (λ (b : Bool). if b then bit_of f j else bit_of g j) (sym (le-ltb j n past))
]

-- a bit is among the first of a word where its variable is before the place
among : (b : Bool) (j k : ℕ) → nat_lt j (if b then k + 1 else k) ≡ (nat_lt j k || (j == k && b))
among true j k = grind (arith, nat_tests)
among false j k = grind (arith, nat_tests)

pub fixed_are_before : FixedAreBefore
unfolding with_fixed
fixed_are_before place v fixed given =
    replaced (fixed v.word) (given v.word) (bits_before place v.word) v.bit
    ∙ ap (λ (b : Bool). if b then bit_of (fixed v.word) v.bit else bit_of (given v.word) v.bit)
    (among (nat_lt v.word place.word) v.bit place.bit)
