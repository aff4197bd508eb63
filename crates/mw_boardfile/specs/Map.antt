-- map.low, map.bits and map.entries.
use Rattle.std.specs.Prelude.{ℕ, List, length, Option, Some, None, Result, Ok}
use Rattle.toml.specs.Data.{Data}
use Rattle.mw_base.specs.declared.cause.Cause.{Cause}
use Rattle.mw_base.specs.declared.cause.Cause.TheVariants.{WrongKind, BadValue}
use Rattle.mw_base.specs.Reading.{◌>>=◌}
use Rattle.mw_board.specs.Rules.{map_bits_rule, map_entry_rule, map_entries_rule}
use Rattle.mw_boardfile.specs.declared.fault.Fault.{Fault}
use Rattle.mw_boardfile.specs.Lists.{none_refused, each_of}
use Rattle.mw_boardfile.specs.Values.{whole, natural, list_or_none}

-- map.low and map.bits: 0 where it isn't there
abbrev pub natural_or_zero : Option Data → Result ℕ Cause
natural_or_zero None = Ok 0
natural_or_zero (Some value) = natural value

-- map.bits: 0 where it isn't there
unfoldable pub bits_in : ℕ → ℕ → Option Data → Result ℕ Cause
bits_in width low given = do
  bits ← natural_or_zero given
  fits ← map_bits_rule width low bits
  Ok bits

-- an entry of the map
unfoldable pub entry_in : Data → Result ℕ Cause
entry_in value = do
  entry ← natural value
  fits ← map_entry_rule entry
  Ok entry

-- the faults of the map's entries
unfoldable pub entry_faults : ℕ → List Data → Result (Unit {0}) Fault
entry_faults bits values = do
  kinds ← none_refused entry_in WrongKind 0 values
  right ← none_refused entry_in BadValue 0 values
  whole (map_entries_rule bits (length values))

-- map.entries: none where it isn't there
unfoldable pub entries_in : ℕ → Option Data → Result (List ℕ) Fault
entries_in bits given = do
  values ← whole (list_or_none given)
  right ← entry_faults bits values
  each_of entry_in 0 values
