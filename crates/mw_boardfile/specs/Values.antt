-- Readers of values: each answers what it read, or why it is refused.
use Rattle.std.specs.Prelude.{◌≡◌, ℕ, ℤ, pos, negsuc, List, [], ◌∷◌, ◌++◌, Option, Some, None, Result, Ok, Err}
use Rattle.toml.specs.Data.{Data, Items, no_items, item, Members, no_members, as_integer, as_str, as_array, as_table}
use Rattle.mw_base.specs.declared.cause.Cause.{Cause}
use Rattle.mw_base.specs.declared.cause.Cause.TheVariants.{MissingKey, WrongKind, BadValue}
use Rattle.mw_base.specs.Literals.{number_spelled}
use Rattle.mw_base.specs.Numbers.{decimal}
use Rattle.mw_base.specs.Reading.{◌>>=◌}
use Rattle.mw_boardfile.specs.declared.fault.Fault.{Fault}
use Rattle.mw_boardfile.specs.declared.fault.KeyFault.{KeyFault}

-- ---- keys

-- a key of a table that stands under a key, and an entry of a list
abbrev pub below : List ℕ → List ℕ → List ℕ
below key part = key ++ 46 ∷ part

-- the key of a fault: the key that is read, or an entry under it
abbrev pub path : List ℕ → Option ℕ → List ℕ
path key None = key
path key (Some n) = below key (decimal n)

-- what is read under a key
abbrev pub under : {A : Type 0} → List ℕ → Result A Fault → Result A KeyFault
under key (Ok x) = Ok x
under key (Err fault) = Err (record { cause = fault.cause; key = path key fault.entry })

-- what is read of a whole value
abbrev pub whole : {A : Type 0} → Result A Cause → Result A Fault
whole (Ok x) = Ok x
whole (Err cause) = Err (record { cause = cause; entry = None })

-- what is read of the entry n
abbrev pub at_entry : {A : Type 0} → ℕ → Result A Cause → Result A Fault
at_entry n (Ok x) = Ok x
at_entry n (Err cause) = Err (record { cause = cause; entry = Some n })

-- ---- values

-- the value of a required key
abbrev pub required : Option Data → Result Data Cause
required (Some value) = Ok value
required None = Err MissingKey

-- a value of the kind that is asked for
abbrev pub kind : {A : Type 0} → Option A → Result A Cause
kind (Some x) = Ok x
kind None = Err WrongKind

-- an integer that isn't negative, else cause 24
abbrev pub not_negative : ℤ → Result ℕ Cause
not_negative (pos n) = Ok n
not_negative (negsuc n) = Err BadValue

-- an integer that isn't negative
unfoldable pub natural : Data → Result ℕ Cause
natural value = do
  integer ← kind (as_integer value)
  not_negative integer

-- a text of one number
unfoldable pub number_text : Data → Result ℕ Cause
number_text value = do
  text ← kind (as_str value)
  number_spelled text

-- the values of a list
abbrev pub values_of : Items → List Data
values_of no_items = []
values_of (item value rest) = value ∷ values_of rest

-- a list
unfoldable pub list : Data → Result (List Data) Cause
list value = do
  items ← kind (as_array value)
  Ok (values_of items)

-- the table under a key, which has no members where the key isn't there
abbrev pub table_or_none : Option Data → Result Members Cause
table_or_none None = Ok no_members
table_or_none (Some value) = kind (as_table value)

-- the list under a key, which has no entries where the key isn't there
abbrev pub list_or_none : Option Data → Result (List Data) Cause
list_or_none None = Ok []
list_or_none (Some value) = list value

-- what a call returned, seen by view, is what reading gives
abbrev pub Answers : {X Y F : Type 0} → (X → Y) → Result X F → Result Y F → Type 0
Answers view (Ok x) read = read ≡ Ok (view x)
Answers view (Err fault) read = read ≡ Err fault
