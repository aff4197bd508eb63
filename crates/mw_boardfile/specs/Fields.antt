-- fields.NAME.
use Rattle.std.specs.Prelude.{ℕ, ◌+◌, List, [], ◌∷◌, codes, Option, Result, Ok, Err}
use Rattle.std.specs.Str.{bytes_eq}
use Rattle.toml.specs.Data.{Data, Members, no_members, member, get_member}
use Rattle.mw_base.specs.declared.cause.Cause.{Cause}
use Rattle.mw_base.specs.declared.cause.Cause.TheVariants.{BadValue, WrongKind}
use Rattle.mw_base.specs.Reading.{◌>>=◌}
use Rattle.mw_board.specs.declared.field.Field.{Field}
use Rattle.mw_board.specs.declared.field.NamedField.{NamedField}
use Rattle.mw_board.specs.Rules.{fields_rule, name_rule, field_rule}
use Rattle.mw_boardfile.specs.declared.fault.Fault.{Fault}
use Rattle.mw_boardfile.specs.declared.fault.KeyFault.{KeyFault}
use Rattle.mw_boardfile.specs.Lists.{none_refused, first_place}
use Rattle.mw_boardfile.specs.Values.{below, under, whole, at_entry, natural, list, table_or_none}

-- a list of two entries
abbrev pub pair : List Data → Result (Data × Data) Cause
pair (low ∷ width ∷ []) = Ok (low, width)
pair other = Err BadValue

-- [low, width]: the number of the field's lowest bit, and how many bits it has
unfoldable pub field_in : ℕ → List ℕ → Data → Result Field Fault
field_in microword name value = do
  entries ← whole (list value)
  kinds ← none_refused natural WrongKind 0 entries
  two ← whole (pair entries)
  is_name ← whole (name_rule name)
  low ← at_entry 0 (natural two.0)
  width ← at_entry 1 (natural two.1)
  fits ← whole (field_rule microword low width)
  Ok (record { low = low; width = width })

-- how many members a table has
abbrev pub count_of : Members → ℕ
count_of no_members = 0
count_of (member name value rest) = count_of rest + 1

-- fields.NAME
unfoldable pub field_of : ℕ → List ℕ → Data → Result NamedField KeyFault
field_of microword name value = do
  field ← under (below (codes "fields") name) (field_in microword name value)
  Ok (record { name = name; field = field })

-- each field, in byte order of their names, which is the order of the members
unfoldable pub each_field : ℕ → Members → Result (List NamedField) KeyFault
each_field microword no_members = Ok []
each_field microword (member name value rest) = do
  first ← field_of microword name value
  others ← each_field microword rest
  Ok (first ∷ others)

-- fields: at most 64
unfoldable pub fields_of : ℕ → Members → Result (List NamedField) KeyFault
fields_of microword document = do
  table ← under (codes "fields") (whole (table_or_none (get_member (codes "fields") document)))
  few ← under (codes "fields") (whole (fields_rule (count_of table)))
  each_field microword table

-- the number of the field of this name
unfoldable pub field_number : List NamedField → List ℕ → Option ℕ
field_number fields name = first_place (λ f. bytes_eq name f.name) 0 fields
