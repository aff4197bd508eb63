-- Words that are shifted up.
use Rattle.std.proofs.Common.{◌≡◌, ℕ, ◌+◌, ◌-◌, ◌*◌, ◌/◌, ◌%◌, ◌^◌, ◌<◌, ◌≤◌, suc, ap, ◌∙◌, arith}
use Rattle.std.proofs.Math.Nat.{pow-suc}
use Rattle.std.proofs.lemmas.Nat.{pow_pos}
use lib.Arith.{mod-mul}

-- what is even, and one bit more, below an even number
doubled_below : (m x n : ℕ) → 0 < m → n ≤ 1 → 2 * x % (m * 2) + n < m * 2
doubled_below m x n some bit =
    let halves : 2 * x % (m * 2) ≡ (2 * x / 2 % m) * 2 + 2 * x % 2 = mod-mul (2 * x) some (omega arith) in
    let same : 2 * x / 2 ≡ x = omega arith in
    omega (arith, rw same at halves)

-- an up shift of a word of w bits is one
pub up_below : (w x n : ℕ) → 1 ≤ w → n ≤ 1 → 2 * x % 2 ^ w + n < 2 ^ w
up_below w x n some bit =
    let next : w ≡ suc (w - 1) = omega arith in
    let size : 2 ^ w ≡ 2 ^ (w - 1) * 2 = ap (λ (k : ℕ). 2 ^ k) next ∙ pow-suc 2 (w - 1) in
    rw size (doubled_below (2 ^ (w - 1)) x n (pow_pos (w - 1)) bit)
