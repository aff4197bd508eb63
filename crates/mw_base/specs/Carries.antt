-- Carries of a sum.
use Rattle.std.specs.Prelude.{ℕ, ◌+◌, ◌%◌, ◌^◌, Bool, nat_le}
use Rattle.mw_base.specs.Words.{num}

-- the carry into bit j of the sum of two whole numbers and a carry in
abbrev pub carry_at : ℕ → ℕ → Bool → ℕ → Bool
carry_at r s c j = nat_le (2 ^ j) (r % 2 ^ j + s % 2 ^ j + num c)
