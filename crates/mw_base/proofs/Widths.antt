-- Words of some bits.
use Rattle.std.proofs.Common.{ℕ, ◌+◌, ◌*◌, ◌%◌, ◌^◌, ◌<◌, ◌≤◌, arith}
use Rattle.std.proofs.Math.Nat.{pow-le-pow_right}
use Rattle.std.proofs.lemmas.Nat.{shl_whole, mul-add-lt, pow-add}

-- a word of some bits is one of more bits
pub below_wider : (x v w : ℕ) → x < 2 ^ v → v ≤ w → x < 2 ^ w
below_wider x v w below wider =
    let powers : 2 ^ v ≤ 2 ^ w = pow-le-pow_right (omega arith) wider in
    omega arith

-- a word of w bits above one of v bits
pub joined_below : (a b w v : ℕ) → a < 2 ^ w → b < 2 ^ v → a * 2 ^ v + b < 2 ^ (w + v)
joined_below a b w v high low =
    rw (pow-add 2 w v) (omega (arith, mul-add-lt a (2 ^ v) b (2 ^ w) high low))

-- the same, as it is shifted in 64 bits
pub shifted_below : (a b w v : ℕ) → a < 2 ^ w → b < 2 ^ v → w + v ≤ 32 → a * 2 ^ v % 2 ^ 64 + b < 2 ^ (w + v)
shifted_below a b w v high low most = rw (shl_whole a w v 64 high (omega arith)) (joined_below a b w v high low)
