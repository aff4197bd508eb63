-- Carries of a sum of whole numbers, at each bit.
use Rattle.std.proofs.Common.{◌≡◌, ℕ, suc, zero, ◌+◌, ◌-◌, ◌*◌, ◌/◌, ◌%◌, ◌^◌, ◌<◌, ◌≤◌, arith, refl, ap, inl, inr, ◌∙◌}
use Rattle.std.proofs.Common.{sym}
use Rattle.std.specs.Prelude.{Bool, true, false, ◌&&◌, ◌||◌, nat_le, ◌==◌}
use Rattle.std.proofs.lemmas.Bool.Decides.{nat_tests, leb_tells}
use Rattle.std.proofs.lemmas.Nat.{mod-pow-add, mod_below, pow_pos, pow-add, div-mul-add, div-add-mod'}
use Rattle.mw_base.specs.Carries.{carry_at}
use Rattle.mw_base.specs.Words.{num, bit_of, differ}

-- a number below 2 is the number of its test
pub num_below : (n : ℕ) → n < 2 → num (n == 1) ≡ n
num_below zero h = refl
num_below (suc zero) h = refl
num_below (suc (suc n)) h = absurd (omega arith)

-- the carry into bit 0 is the carry in
pub carry_at-zero : (r s : ℕ) (c : Bool) → carry_at r s c 0 ≡ c
carry_at-zero r s true = grind (arith, nat_tests)
carry_at-zero r s false = grind (arith, nat_tests)

-- a number's low j + 1 bits are bit j above its low j bits
pub low-suc : (r j : ℕ) → r % 2 ^ (j + 1) ≡ num (bit_of r j) * 2 ^ j + r % 2 ^ j
low-suc r j =
    let turned : j + 1 ≡ 1 + j = omega arith in
    ap (λ (k : ℕ). r % 2 ^ k) turned ∙ mod-pow-add r 1 j
    ∙ ap (λ (b : ℕ). b * 2 ^ j + r % 2 ^ j)
    (sym (num_below (r / 2 ^ j % 2) (mod_below (r / 2 ^ j) 2 (omega arith))))

-- the carry of one more bit, from the parts of the addends
carry_step : (m r s : ℕ) (x y c : Bool) → r < m → s < m
    → nat_le (2 * m) (num x * m + r + (num y * m + s) + num c) ≡ (x && y || (x || y) && nat_le m (r + s + num c))
carry_step m r s true true true p q = grind (arith, nat_tests)
carry_step m r s true true false p q = grind (arith, nat_tests)
carry_step m r s true false true p q = grind (arith, nat_tests)
carry_step m r s true false false p q = grind (arith, nat_tests)
carry_step m r s false true true p q = grind (arith, nat_tests)
carry_step m r s false true false p q = grind (arith, nat_tests)
carry_step m r s false false true p q = grind (arith, nat_tests)
carry_step m r s false false false p q = grind (arith, nat_tests)

-- the carry into bit j + 1: bit j generates it, or propagates the carry into bit j
pub carry_at-suc : (r s : ℕ) (c : Bool) (j : ℕ)
    → carry_at r s c (j + 1) ≡ (bit_of r j && bit_of s j || (bit_of r j || bit_of s j) && carry_at r s c j)
carry_at-suc r s c j =
    let double : 2 ^ (j + 1) ≡ 2 * 2 ^ j = pow-add 2 j 1 ∙ omega arith in
    let under = pow_pos j in
    rw (low-suc r j, low-suc s j, double)
    (carry_step (2 ^ j) (r % 2 ^ j) (s % 2 ^ j) (bit_of r j) (bit_of s j) c (mod_below r (2 ^ j) under)
    (mod_below s (2 ^ j) under))

-- a bit as a number is below 2
pub num_small : (c : Bool) → num c < 2
num_small true = omega arith
num_small false = omega arith

-- either a number is at most another, or it is above it
by_leb : {P : Type 0} (m t : ℕ) → (nat_le m t ≡ true → m ≤ t → P) → (nat_le m t ≡ false → t < m → P) → P
by_leb m t f g = elim (leb_tells m t) [ inl h ↦ f h.0 h.1 | inr h ↦ g h.0 h.1 ]

-- a quotient, where the rest passes the divisor once at most
over : (m a t : ℕ) → 0 < m → t < 2 * m → (a * m + t) / m ≡ a + num (nat_le m t)
over m a t p h = by_leb m t
    (λ (e : nat_le m t ≡ true) (le : m ≤ t). let again : a * m + t ≡ (a + 1) * m + (t - m) = omega arith in
    rw (e, again) (div-mul-add (a + 1) m (t - m) (omega arith)))
    (λ (e : nat_le m t ≡ false) (lt : t < m). rw e (div-mul-add a m t lt ∙ omega arith))

-- the quotient of a sum, from the parts of the addends
sum_parts : (m a b x y : ℕ) (c : Bool) → 0 < m → x < m → y < m
    → (a * m + x + (b * m + y) + num c) / m ≡ a + b + num (nat_le m (x + y + num c))
sum_parts m a b x y c p h k =
    let t : ℕ = x + y + num c in
    let small : num c < 2 = num_small c in
    let whole : a * m + x + (b * m + y) + num c ≡ (a + b) * m + t = omega arith in
    let twice : t < 2 * m = omega arith in
    rw whole (over m (a + b) t p twice)

-- a sum of two numbers and a carry is odd where an odd number of the three are
parity : (a b : ℕ) (k : Bool) → ((a + b + num k) % 2 == 1) ≡ differ (differ (a % 2 == 1) (b % 2 == 1)) k
parity a b true = grind (arith, nat_tests)
parity a b false = grind (arith, nat_tests)

-- a bit of a sum is odd where an odd number of the two bits and the carry is 1
pub sum_bit : (r s : ℕ) (c : Bool) (j : ℕ)
    → bit_of (r + s + num c) j ≡ differ (differ (bit_of r j) (bit_of s j)) (carry_at r s c j)
sum_bit r s c j =
    let m : ℕ = 2 ^ j in
    let under : 0 < m = pow_pos j in
    let split : r + s + num c ≡ r / m * m + r % m + (s / m * m + s % m) + num c =
    omega (arith, div-add-mod' r m, div-add-mod' s m) in
    ap (λ (n : ℕ). n / m % 2 == 1) split
    ∙ ap (λ (n : ℕ). n % 2 == 1)
    (sum_parts m (r / m) (s / m) (r % m) (s % m) c under (mod_below r m under) (mod_below s m under))
    ∙ parity (r / m) (s / m) (carry_at r s c j)
