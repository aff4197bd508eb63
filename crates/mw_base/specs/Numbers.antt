-- Numbers as reports print them.
use Rattle.std.specs.Prelude.{ℕ, zero, suc, ◌+◌, ◌/◌, ◌%◌, ◌++◌, List, [], ◌∷◌, map, if◌then◌else◌, nat_lt, ◌==◌}
use Rattle.std.specs.Int.Digits.{digits_of}

-- the letter or figure of a digit: '0' to '9', 'A' to 'F'
abbrev pub glyph : ℕ → ℕ
glyph d = if nat_lt d 10 then d + 48 else d + 55

-- the digits of a number in a base, without leading zeros; 0 has the one digit 0
unfoldable pub numeral : ℕ → ℕ → List ℕ
numeral base n = if n == 0 then 48 ∷ [] else map glyph (digits_of base n)

-- "0x" and the hexadecimal digits
abbrev pub hex : ℕ → List ℕ
hex n = 48 ∷ 120 ∷ numeral 16 n

-- the decimal digits
abbrev pub decimal : ℕ → List ℕ
decimal n = numeral 10 n

-- the lowest hexadecimal digits of a number, this many of them, leading zeros too
unfoldable pub padded : ℕ → ℕ → List ℕ
padded zero n = []
padded (suc count) n = padded count (n / 16) ++ glyph (n % 16) ∷ []
