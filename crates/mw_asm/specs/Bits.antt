-- Bits of a microword that are set.
use Rattle.std.specs.Prelude.{ℕ, ◌*◌, ◌^◌, Bool, ◌==◌, bit_and, bit_or}
use Rattle.mw_base.specs.Words.{ones, complement}
use Rattle.mw_board.specs.declared.field.Field.{Field}
use Rattle.mw_asm.specs.declared.bits.SetBits.{SetBits}

-- none is set
abbrev pub no_bits : SetBits
no_bits = record { mask = 0; value = 0 }

-- the bits of a field, set to a value of its width
abbrev pub field_bits : Field → ℕ → SetBits
field_bits field value = record { mask = ones field.width * 2 ^ field.low; value = value * 2 ^ field.low }

-- each bit that both set has one value
abbrev pub agree : SetBits → SetBits → Bool
agree first second =
    bit_and (bit_and first.mask second.mask) first.value == bit_and (bit_and first.mask second.mask) second.value

-- the bits that either sets
abbrev pub union : SetBits → SetBits → SetBits
union first second = record { mask = bit_or first.mask second.mask; value = bit_or first.value second.value }

-- the microword with these bits, and those of unset elsewhere
abbrev pub word_of : ℕ → SetBits → ℕ
word_of unset bits = bit_or bits.value (bit_and unset (complement 128 bits.mask))
