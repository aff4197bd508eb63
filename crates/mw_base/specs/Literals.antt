-- Numbers as texts spell them: decimal digits, or "0o", "0x" or "0b" and digits of that base. Hexadecimal digits have
-- either case.
use Rattle.std.specs.Prelude.{ℕ, ◌+◌, ◌-◌, ◌*◌, ◌^◌, List, [], ◌∷◌, Bool, ◌&&◌, if◌then◌else◌, nat_lt, nat_le, ◌==◌}
use Rattle.std.specs.Prelude.{Option, Some, None, Result, Ok, Err}
use Rattle.std.specs.List.{list_all, fold}
use Rattle.mw_base.specs.declared.cause.Cause.{Cause}
use Rattle.mw_base.specs.declared.cause.Cause.TheVariants.{BadNumber, TooWide}

-- the value of the digit '0' to '9', 'a' to 'f' or 'A' to 'F'; any other byte has one that is a digit of no base
abbrev pub digit_of : ℕ → ℕ
digit_of c =
    if nat_le 48 c && nat_le c 57 then c - 48
    else (if nat_le 97 c && nat_le c 102 then c - 87 else (if nat_le 65 c && nat_le c 70 then c - 55 else 36))

-- each byte is a digit of the base
abbrev pub all_digits : ℕ → List ℕ → Bool
all_digits base text = list_all (λ c. nat_lt (digit_of c) base) text

-- the number that digits stand for, the highest digit first
abbrev pub value_of : ℕ → List ℕ → ℕ
value_of base text = fold (λ n c. n * base + digit_of c) 0 text

-- one digit or more, of a number below 2^128
unfoldable pub digits_number : ℕ → List ℕ → Result ℕ Cause
digits_number base [] = Err BadNumber
digits_number base (c ∷ rest) =
    if all_digits base (c ∷ rest)
    then (if nat_lt (value_of base (c ∷ rest)) (2 ^ 128) then Ok (value_of base (c ∷ rest)) else Err TooWide)
    else Err BadNumber

-- the base that the letter of "0o", "0x" or "0b" names
abbrev pub base_named : ℕ → Option ℕ
base_named letter =
    if letter == 111 then Some 8 else (if letter == 120 then Some 16 else (if letter == 98 then Some 2 else None))

-- a number whose first byte is 0 and whose second is this letter: of the base that it names, else decimal
abbrev pub number_marked : Option ℕ → List ℕ → List ℕ → Result ℕ Cause
number_marked (Some base) digits text = digits_number base digits
number_marked None digits text = digits_number 10 text

-- the number that the whole text spells, or the cause why it spells none
unfoldable pub number_spelled : List ℕ → Result ℕ Cause
number_spelled [] = digits_number 10 []
number_spelled (c ∷ []) = digits_number 10 (c ∷ [])
number_spelled (c ∷ letter ∷ digits) =
    if c == 48 then number_marked (base_named letter) digits (c ∷ letter ∷ digits)
    else digits_number 10 (c ∷ letter ∷ digits)
