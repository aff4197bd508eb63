-- Numbers shifted within 128 bits.
use Rattle.std.proofs.Common.{◌≡◌, ℕ, ◌+◌, ◌*◌, ◌%◌, ◌^◌, ◌<◌, ◌≤◌, arith}
use Rattle.std.proofs.Math.Nat.{mul-lt-mul_of_pos_right, pow-le-pow_right}
use Rattle.std.proofs.lemmas.Nat.{pow-add, pow_pos}
use Rattle.std.proofs.Math.Nat.{mod-eq_of_lt}

-- a number of so many bits, shifted within so many
pub shifted_below : (value width low bits : ℕ) → value < 2 ^ width → low + width ≤ bits → value * 2 ^ low < 2 ^ bits
shifted_below value width low bits below within =
    let shifted : value * 2 ^ low < 2 ^ width * 2 ^ low = mul-lt-mul_of_pos_right below (pow_pos low) in
    let joined : 2 ^ (width + low) ≡ 2 ^ width * 2 ^ low = pow-add 2 width low in
    let most : 2 ^ (width + low) ≤ 2 ^ bits =
    pow-le-pow_right {n = 2} (omega arith) {i = width + low} {j = bits} (omega arith) in
    omega (arith, joined, most, shifted)

-- within 128 bits nothing is lost
pub shift_fits : (value width low : ℕ)
    → value < 2 ^ width → low + width ≤ 128 → value * 2 ^ low % 2 ^ 128 ≡ value * 2 ^ low
shift_fits value width low below within = mod-eq_of_lt (shifted_below value width low 128 below within)
