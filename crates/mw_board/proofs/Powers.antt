-- Numbers below powers of two.
use Rattle.std.proofs.Common.{◌≡◌, ℕ, ◌^◌, ◌<◌, ◌≤◌, true, false, nat_lt, nat_le, ◌==◌, arith}
use Rattle.std.proofs.Math.Nat.{pow-le-pow_right}
use Rattle.std.proofs.lemmas.Bool.Decides.{nat_tests}

-- greater powers are no less
grows : (low high : ℕ) → low ≤ high → 2 ^ low ≤ 2 ^ high
grows low high h = pow-le-pow_right (omega arith) h

-- a number below one power is below each greater one
pub below_more_bits : (n low high : ℕ) → n < 2 ^ low → low ≤ high → nat_lt n (2 ^ high) ≡ true
below_more_bits n low high below h =
    let more = grows low high h in
    let within : n < 2 ^ high = omega (arith, more) in
    grind (arith, nat_tests, within)

-- and no more than it
pub at_most_more_bits : (n low high : ℕ) → n < 2 ^ low → low ≤ high → nat_le n (2 ^ high) ≡ true
at_most_more_bits n low high below h =
    let more = grows low high h in
    let within : n ≤ 2 ^ high = omega (arith, more) in
    grind (arith, nat_tests, within)

-- and not equal to it
pub differs_from_more_bits : (n low high : ℕ) → n < 2 ^ low → low ≤ high → (n == 2 ^ high) ≡ false
differs_from_more_bits n low high below h =
    let more = grows low high h in
    let within : n < 2 ^ high = omega (arith, more) in
    grind (arith, nat_tests, within)
