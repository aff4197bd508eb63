-- Numbers for buckets.
use Rattle.std.specs.Prelude.{ℕ, ◌+◌, ◌*◌, ◌/◌, ◌%◌, ◌^◌, bit_xor}
use Rattle.mw_dd.specs.declared.hash.TheConstants.{FIRST, SECOND, THIRD, GROUP, SPREAD}

-- three numbers scattered over 32 bits
unfoldable pub scattered : (a b c : ℕ) → ℕ
scattered a b c = (a * FIRST + b * SECOND + c * THIRD) % 2 ^ 64 / 2 ^ 32

-- three numbers scattered, where last numbers of one group stay in one
unfoldable pub scattered_near : (a b near : ℕ) → ℕ
scattered_near a b near = bit_xor (scattered a b (near / GROUP)) (near % GROUP)

-- three numbers scattered near twice a place
unfoldable pub scattered_behind : (a b c place : ℕ) → ℕ
scattered_behind a b c place = bit_xor (place * 2 % 2 ^ 32) (scattered a b c % SPREAD)
