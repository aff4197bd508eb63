-- What a shelf tells of a name, and what a fetch gives of it; what a sink has taken.
use Rattle.std.specs.Prelude.{◌≡◌, ℕ, ◌-◌, ◌≤◌, ◌<◌, List, ◌++◌, length, take, drop, Option, option_map}

-- n bytes stand in the front of the buffer: those of the contents from this place on; none come for a
-- buffer with room exactly where the place is at or past the end; behind them the buffer is as it was
pub record Gives (bytes : List ℕ) (at n : ℕ) (old new : List ℕ) : Type 0 where
  pub given : take n new ≡ take n (drop at bytes)
  pub present : n ≤ length bytes - at
  pub end : n ≡ 0 → 0 < length old → length bytes ≤ at
  pub behind : drop n new ≡ drop n old

-- what was taken, where that is told, with more at its end
abbrev pub with_more : Option (List ℕ) → List ℕ → Option (List ℕ)
with_more taken more = option_map (λ (bytes : List ℕ). bytes ++ more) taken

-- what was taken, where that is told, has a front part of these bytes more at its end
abbrev pub TookFront : Option (List ℕ) → Option (List ℕ) → List ℕ → Type 0
TookFront before now bytes = (n : ℕ) × (n ≤ length bytes) × (now ≡ with_more before (take n bytes))
