-- Bits of words.
use Rattle.std.proofs.Common.{◌≡◌, ℕ, suc, zero, ◌+◌, ◌-◌, ◌*◌, ◌/◌, ◌%◌, ◌^◌, ◌<◌, min, max, arith, refl, ap, ap₂, ◌∙◌}
use Rattle.std.proofs.Common.{sym}
use Rattle.std.specs.Prelude.{not, ◌&&◌, ◌||◌, ◌==◌, bit_and, bit_or, bit_xor}
use Rattle.std.proofs.lemmas.Bool.Decides.{nat_tests}
use Rattle.std.proofs.lemmas.Nat.{mod-pow-add, mod_below, pow_pos, pow-add, field_of, div-mul-add, div-add-mod'}
use Rattle.std.proofs.lemmas.Nat.{div_below}
use Rattle.std.proofs.lemmas.Nat.Bits.{bit_at_and, bit_at_or, bit_at_xor}
use Rattle.mw_base.specs.Words.{bit_of, differ, complement}

-- the low bits of a word are its own
pub bit_of-low : (x w i : ℕ) → i < w → bit_of (x % 2 ^ w) i ≡ bit_of x i
bit_of-low x w i below =
    let parts : w ≡ w - i - 1 + 1 + i = omega arith in
    let field : x % 2 ^ (w - i - 1 + 1 + i) / 2 ^ i ≡ x / 2 ^ i % 2 ^ (w - i - 1 + 1) = field_of x (w - i - 1 + 1) i in
    let odd : x / 2 ^ i % 2 ^ (w - i - 1 + 1) ≡ x / 2 ^ i / 2 % 2 ^ (w - i - 1) * 2 + x / 2 ^ i % 2 =
    mod-pow-add (x / 2 ^ i) (w - i - 1) 1 in
    let same : x % 2 ^ w / 2 ^ i % 2 ≡ x / 2 ^ i % 2 = ap (λ (k : ℕ). x % 2 ^ k / 2 ^ i % 2) parts
    ∙ ap (λ (n : ℕ). n % 2) (field ∙ odd) ∙ omega arith in
    ap (λ (n : ℕ). n == 1) same

-- of two bits as numbers the greater is 1 where one of them is
max_test : (u v : ℕ) → u < 2 → v < 2 → (max u v == 1) ≡ (u == 1 || v == 1)
max_test zero zero p q = refl
max_test zero (suc zero) p q = refl
max_test (suc zero) zero p q = refl
max_test (suc zero) (suc zero) p q = refl
max_test u (suc (suc v)) p q = absurd (omega arith)
max_test (suc (suc u)) v p q = absurd (omega arith)

-- of two bits as numbers the lesser is 1 where both of them are
min_test : (u v : ℕ) → u < 2 → v < 2 → (min u v == 1) ≡ (u == 1 && v == 1)
min_test zero zero p q = refl
min_test zero (suc zero) p q = refl
min_test (suc zero) zero p q = refl
min_test (suc zero) (suc zero) p q = refl
min_test u (suc (suc v)) p q = absurd (omega arith)
min_test (suc (suc u)) v p q = absurd (omega arith)

-- the sum of two bits as numbers is odd where they differ
odd_test : (u v : ℕ) → u < 2 → v < 2 → ((u + v) % 2 == 1) ≡ differ (u == 1) (v == 1)
odd_test zero zero p q = refl
odd_test zero (suc zero) p q = refl
odd_test (suc zero) zero p q = refl
odd_test (suc zero) (suc zero) p q = refl
odd_test u (suc (suc v)) p q = absurd (omega arith)
odd_test (suc (suc u)) v p q = absurd (omega arith)

-- a bit as a number is below 2
odd_below : (x i : ℕ) → x / 2 ^ i % 2 < 2
odd_below x i = mod_below (x / 2 ^ i) 2 (omega arith)

-- a bit of an or is the or of the bits
pub bit_of-or : (r s i : ℕ) → bit_of (bit_or r s) i ≡ (bit_of r i || bit_of s i)
bit_of-or r s i = ap (λ (n : ℕ). n == 1) (bit_at_or r s i)
    ∙ max_test (r / 2 ^ i % 2) (s / 2 ^ i % 2) (odd_below r i) (odd_below s i)

-- a bit of an and is the and of the bits
pub bit_of-and : (r s i : ℕ) → bit_of (bit_and r s) i ≡ (bit_of r i && bit_of s i)
bit_of-and r s i = ap (λ (n : ℕ). n == 1) (bit_at_and r s i)
    ∙ min_test (r / 2 ^ i % 2) (s / 2 ^ i % 2) (odd_below r i) (odd_below s i)

-- a bit of an exclusive or is 1 where the bits differ
pub bit_of-xor : (r s i : ℕ) → bit_of (bit_xor r s) i ≡ differ (bit_of r i) (bit_of s i)
bit_of-xor r s i = ap (λ (n : ℕ). n == 1) (bit_at_xor r s i)
    ∙ odd_test (r / 2 ^ i % 2) (s / 2 ^ i % 2) (odd_below r i) (odd_below s i)

-- of two numbers whose sum is odd one is odd and the other is not
turned_test : (t a d : ℕ) → a + 1 + d ≡ 2 * t → (d % 2 == 1) ≡ not (a % 2 == 1)
turned_test t a d whole = grind (arith, nat_tests)

-- the bits of a word's complement above a place are d, where a stands above it in the word
turned_part : (m a b d : ℕ) → b < m → ((a + 1 + d) * m - 1 - (a * m + b)) / m ≡ d
turned_part m a b d low =
    let parts : (a + 1 + d) * m ≡ a * m + m + d * m = omega arith in
    let whole : (a + 1 + d) * m - 1 - (a * m + b) ≡ d * m + (m - 1 - b) = omega arith in
    rw whole (div-mul-add d m (m - 1 - b) (omega arith))

-- the complement turns each bit over
pub bit_of-complement : (w x i : ℕ) → i < w → x < 2 ^ w → bit_of (complement w x) i ≡ not (bit_of x i)
bit_of-complement w x i below word =
    let m : ℕ = 2 ^ i in
    let a : ℕ = x / m in
    let half : ℕ = 2 ^ (w - i - 1) in
    let parts : w ≡ w - i - 1 + 1 + i = omega arith in
    let size : 2 ^ w ≡ half * 2 * m = ap (λ (k : ℕ). 2 ^ k) parts ∙ pow-add 2 (w - i - 1 + 1) i
    ∙ ap (λ (n : ℕ). n * m) (pow-add 2 (w - i - 1) 1) in
    let under : 0 < m = pow_pos i in
    let high : a < half * 2 = div_below x m (half * 2) under (rw size at word) in
    let d : ℕ = half * 2 - 1 - a in
    let all : a + 1 + d ≡ 2 * half = omega arith in
    let turned : (2 ^ w - 1 - x) / m ≡ d =
    ap₂ (λ (whole word : ℕ). (whole - 1 - word) / m) (size ∙ ap (λ (n : ℕ). n * m) (omega arith))
    (sym (div-add-mod' x m)) ∙ turned_part m a (x % m) d (mod_below x m under) in
    ap (λ (n : ℕ). n % 2 == 1) turned ∙ turned_test half a d all
