-- Words of a width w: the numbers below 2 ^ w.
use Rattle.std.specs.Prelude.{ℕ, ◌+◌, ◌-◌, ◌*◌, ◌/◌, ◌%◌, ◌^◌, Bool, true, false, not, ◌==◌}

-- bit j of a word, from the least, bit 0
abbrev pub bit_of : ℕ → ℕ → Bool
bit_of x j = x / 2 ^ j % 2 == 1

-- a bit as the number 0 or 1
abbrev pub num : Bool → ℕ
num true = 1
num false = 0

-- one of two bits, and not both
abbrev pub differ : Bool → Bool → Bool
differ true b = not b
differ false b = b

-- the word of width w whose bits are all 1
abbrev pub ones : ℕ → ℕ
ones w = 2 ^ w - 1

-- each bit of the word turned over
abbrev pub complement : ℕ → ℕ → ℕ
complement w x = 2 ^ w - 1 - x

-- the run of bits of a word that begins at bit low and is w bits long
abbrev pub part : ℕ → ℕ → ℕ → ℕ
part low w x = x / 2 ^ low % 2 ^ w

-- a high word put above a low one of w bits
abbrev pub join : ℕ → ℕ → ℕ → ℕ
join w high low = high * 2 ^ w + low
