-- Numbers of a fixed count of digits.
use Rattle.std.proofs.Common.{◌≡◌, ℕ, zero, suc, ◌-◌, ◌/◌, ◌%◌, ◌<◌, [], ◌∷◌, ◌++◌, refl, arith}
use Rattle.mw_base.specs.Numbers.{glyph, padded}

-- the last digit
pub padded_step : (count n : ℕ) → 0 < count → padded count n ≡ padded (count - 1) (n / 16) ++ glyph (n % 16) ∷ []
unfolding padded
padded_step zero n h = absurd (omega arith)
padded_step (suc count) n h = let e : suc count - 1 ≡ count = omega arith in rw e refl
