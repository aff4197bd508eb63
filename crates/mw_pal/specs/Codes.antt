-- The words that statements spell.
use Rattle.std.specs.Prelude.{ℕ, ◌+◌, ◌*◌, ◌/◌, ◌%◌, List, Bool, if◌then◌else◌, nat_lt, ◌==◌, Option, Result, Ok, Err}
use Rattle.mw_base.specs.declared.cause.Cause.TheVariants.{OffPage}
use Rattle.mw_base.specs.declared.place.Place.{Place}
use Rattle.mw_base.specs.declared.place.Place.TheVariants.{Label, Address}
use Rattle.mw_base.specs.declared.refusal.TextFault.{TextFault}
use Rattle.mw_base.specs.declared.token.Token.{Token}
use Rattle.mw_base.specs.Places.{address_of}
use Rattle.mw_base.specs.Reading.{◌>>=◌}
use Rattle.mw_base.specs.TokenLines.{fault_on}
use Rattle.mw_base.specs.Words.{num}
use Rattle.mw_pal.specs.declared.opcode.Opcode.{Opcode}
use Rattle.mw_pal.specs.declared.statement.Instruction.{Instruction}
use Rattle.mw_pal.specs.declared.statement.Instruction.TheVariants.{Data, Reference, Operate}
use Rattle.mw_pal.specs.Joins.{joined_code}
use Rattle.mw_pal.specs.Opcodes.{number_of}

-- the token of an address
abbrev pub token_of : Place → Token
token_of (Label token) = token
token_of (Address numeral) = numeral.token

-- the page bit and the seven bits below it that reach an address from a statement's own: of page 0 with the page bit 0,
-- of the statement's page with 1
unfoldable pub page_part : Token → ℕ → ℕ → Result ℕ TextFault
page_part token from address =
    if nat_lt address 0o200 then Ok address
    else (if address / 0o200 == from / 0o200 then Ok (0o200 + address % 0o200) else Err (fault_on token OffPage))

-- the word of an instruction that refers to memory: the opcode in three bits, the indirect bit, the page bit and seven
-- bits of the address
unfoldable pub reference_code : List ℕ → (List ℕ → Option ℕ) → ℕ → Opcode → Bool → Place → Result ℕ TextFault
reference_code text labels from opcode indirect place = do
  address ← address_of text labels place
  low ← page_part (token_of place) from address
  Ok (number_of opcode * 0o1000 + num indirect * 0o400 + low)

-- the word of a statement at an address
abbrev pub code_of : List ℕ → (List ℕ → Option ℕ) → ℕ → Instruction → Result ℕ TextFault
code_of text labels from (Data value) = address_of text labels value
code_of text labels from (Reference opcode indirect place) = reference_code text labels from opcode indirect place
code_of text labels from (Operate words) = Ok (joined_code words)
