-- Words and their nibbles.
use Rattle.std.proofs.Common.{◌≡◌, ℕ, suc, zero, ◌+◌, ◌*◌, ◌/◌, ◌%◌, ◌^◌, ◌<◌, ◌≤◌, arith, refl, ap, ap₂, ◌∙◌, sym}
use Rattle.std.specs.Prelude.{Bool, ◌&&◌, ◌==◌}
use Rattle.std.proofs.lemmas.Bool.Decides.{nat_tests}
use Rattle.std.proofs.lemmas.Nat.{mod-pow-add, mod_below, pow_pos, shr-shr}
use Rattle.std.proofs.Common.{mod-eq_of_lt}
use Rattle.mw_base.specs.Words.{num, bit_of}
use Rattle.mw_slice.specs.Slice.{of_bits}
use Rattle.mw_slice.specs.Board.{nibble, joined, wired_and}
use Rattle.mw_base.proofs.Carries.{num_below}

-- the low four bits of a number are those of its remainder by 16
low_bit : (y j : ℕ) → j < 4 → y % 16 / 2 ^ j % 2 ≡ y / 2 ^ j % 2
low_bit y zero below = omega arith
low_bit y (suc zero) below = omega arith
low_bit y (suc (suc zero)) below = omega arith
low_bit y (suc (suc (suc zero))) below = omega arith
low_bit y (suc (suc (suc (suc j)))) below = absurd (omega arith)

-- a nibble's bit is the word's
pub bit_of-nibble : (k x j : ℕ) → j < 4 → bit_of (nibble k x) j ≡ bit_of x (4 * k + j)
bit_of-nibble k x j below =
    ap (λ (n : ℕ). n == 1) (low_bit (x / 2 ^ (4 * k)) j below ∙ ap (λ (n : ℕ). n % 2) (shr-shr x (4 * k) j))

-- four bits of a word make its nibble
pub of_bits-nibble : (bits : ℕ → Bool) (k x : ℕ)
    → ((j : ℕ) → j < 4 → bits j ≡ bit_of x (4 * k + j)) → of_bits bits ≡ nibble k x
of_bits-nibble bits k x same =
    let at : (j : ℕ) → j < 4 → num (bits j) ≡ x / 2 ^ (4 * k) / 2 ^ j % 2 =
    λ j below. ap num (same j below)
    ∙ num_below (x / 2 ^ (4 * k + j) % 2) (mod_below (x / 2 ^ (4 * k + j)) 2 (omega arith))
    ∙ sym (ap (λ (n : ℕ). n % 2) (shr-shr x (4 * k) j)) in
    let a0 : num (bits 0) ≡ x / 2 ^ (4 * k) % 2 = at 0 (omega arith) ∙ omega arith in
    let a1 : num (bits 1) ≡ x / 2 ^ (4 * k) / 2 % 2 = at 1 (omega arith) in
    let a2 : num (bits 2) ≡ x / 2 ^ (4 * k) / 4 % 2 = at 2 (omega arith) in
    let a3 : num (bits 3) ≡ x / 2 ^ (4 * k) / 8 % 2 = at 3 (omega arith) in
    omega arith

-- nibbles of a word make its low bits
joined-low : (nibbles : ℕ → ℕ) (x n : ℕ)
    → ((k : ℕ) → k < n → nibbles k ≡ nibble k x) → joined nibbles n ≡ x % 2 ^ (4 * n)
unfolding joined
joined-low nibbles x zero same = omega arith
joined-low nibbles x (suc n) same =
    let rest = joined-low nibbles x n (λ k below. same k (omega arith)) in
    let top = same n (omega arith) in
    let size : 4 * suc n ≡ 4 + 4 * n = omega arith in
    ap₂ (λ (high low : ℕ). high * 2 ^ (4 * n) + low) top rest
    ∙ sym (mod-pow-add x 4 (4 * n))
    ∙ sym (ap (λ (k : ℕ). x % 2 ^ k) size)

-- the nibbles of a word make it
pub joined-nibbles : (nibbles : ℕ → ℕ) (x n : ℕ)
    → x < 2 ^ (4 * n) → ((k : ℕ) → k < n → nibbles k ≡ nibble k x) → joined nibbles n ≡ x
joined-nibbles nibbles x n below same = joined-low nibbles x n same ∙ mod-eq_of_lt below

-- a word is 0 where its high part and its low part are
high_zero : (high low m : ℕ) → 0 < m → (high * m + low == 0) ≡ (low == 0 && high == 0)
high_zero zero low m some = grind (arith, nat_tests)
high_zero (suc high) low m some =
    let passed : m ≤ suc high * m = omega arith in
    grind (arith, nat_tests)

-- a word is 0 where each of its nibbles is
pub wired_and-zeros : (nibbles : ℕ → ℕ) (n : ℕ) → wired_and (λ k. nibbles k == 0) n ≡ (joined nibbles n == 0)
unfolding joined wired_and
wired_and-zeros nibbles zero = refl
wired_and-zeros nibbles (suc n) =
    ap (λ (low : Bool). low && nibbles n == 0) (wired_and-zeros nibbles n)
    ∙ sym (high_zero (nibbles n) (joined nibbles n) (2 ^ (4 * n)) (pow_pos (4 * n)))
