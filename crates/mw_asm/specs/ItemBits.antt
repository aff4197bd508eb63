-- The bits that items set.
use Rattle.std.specs.Prelude.{ℕ, ◌+◌, ◌^◌, ◌≤◌, List, if◌then◌else◌, nat_lt, option_map, Option, Some, None, ok_or}
use Rattle.std.specs.Prelude.{Result, Ok, Err}
use Rattle.std.specs.List.{find}
use Rattle.std.specs.Str.{bytes_eq}
use Rattle.mw_base.specs.declared.cause.Cause.TheVariants.{UnknownName, FieldConflict, ValueTooWide}
use Rattle.mw_base.specs.declared.refusal.TextFault.{TextFault}
use Rattle.mw_base.specs.declared.token.Kind.{Kind}
use Rattle.mw_base.specs.declared.token.Kind.TheVariants.{Number}
use Rattle.mw_base.specs.declared.token.Token.{Token}
use Rattle.mw_base.specs.Reading.{◌>>=◌}
use Rattle.mw_base.specs.Steps.{steps}
use Rattle.mw_base.specs.Symbols.{spelled}
use Rattle.mw_base.specs.TokenLines.{fault_on}
use Rattle.mw_board.specs.declared.field.Field.{Field}
use Rattle.mw_board.specs.declared.field.NamedField.{NamedField}
use Rattle.mw_asm.specs.declared.bits.SetBits.{SetBits}
use Rattle.mw_asm.specs.declared.items.Item.{Item}
use Rattle.mw_asm.specs.declared.names.Scope.{Scope}
use Rattle.mw_asm.specs.Bits.{field_bits, agree, union}
use Rattle.mw_asm.specs.Names.{Names, number_named, bits_named}

-- the field of this name
unfoldable pub field_named : List NamedField → List ℕ → Option Field
field_named fields name =
    option_map (λ (f : NamedField). f.field) (find (λ (f : NamedField). bytes_eq f.name name) fields)

-- the value of a token of this kind: a number, or that of the name of one
abbrev pub value_of_kind : List ℕ → Names → Scope → Token → Kind → Result ℕ TextFault
value_of_kind text names scope token (Number value) = Ok value
value_of_kind text names scope token other =
    ok_or (number_named scope (names (spelled text token))) (fault_on token UnknownName)

-- the value that a token gives
unfoldable pub value_of : List ℕ → Names → Scope → Token → Result ℕ TextFault
value_of text names scope token = value_of_kind text names scope token token.kind

-- a field set to a value
unfoldable pub field_set : Field → Token → ℕ → Result SetBits TextFault
field_set field token value =
    if nat_lt value (2 ^ field.width) then Ok (field_bits field value) else Err (fault_on token ValueTooWide)

-- FIELD = VALUE
unfoldable pub valued_bits : List NamedField → List ℕ → Names → Scope → Token → Token → Result SetBits TextFault
valued_bits fields text names scope name token = do
  field ← ok_or (field_named fields (spelled text name)) (fault_on name UnknownName)
  value ← value_of text names scope token
  field_set field token value

-- the name of a def
unfoldable pub alone_bits : List ℕ → Names → Token → Result SetBits TextFault
alone_bits text names name = ok_or (bits_named (names (spelled text name))) (fault_on name UnknownName)

-- the bits that an item sets
abbrev pub item_bits : List NamedField → List ℕ → Names → Scope → Token → Option Token → Result SetBits TextFault
item_bits fields text names scope name (Some value) = valued_bits fields text names scope name value
item_bits fields text names scope name None = alone_bits text names name

-- these bits beside those that earlier items of the line set
unfoldable pub beside : Token → SetBits → SetBits → Result SetBits TextFault
beside item before bits = if agree before bits then Ok (union before bits) else Err (fault_on item FieldConflict)

-- the bits that an item sets beside those of the earlier items
unfoldable pub with_item : List NamedField → List ℕ → Names → Scope → SetBits → Item → Result SetBits TextFault
with_item fields text names scope before item = do
  bits ← item_bits fields text names scope item.name item.value
  beside item.name before bits

-- the bits that items set beside those before them
abbrev pub bits_of : List NamedField → List ℕ → Names → Scope → SetBits → List Item → Result SetBits TextFault
bits_of fields text names scope before items = steps (with_item fields text names scope) before items

-- a field that stands in a microword of at most 128 bits
pub record FitsWord (field : Field) : Type 0 where
  pub some : 1 ≤ field.width
  pub wide : field.width ≤ 32
  pub within : field.low + field.width ≤ 128
