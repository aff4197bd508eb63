-- Lists of values.
use Rattle.std.specs.Prelude.{ℕ, ◌+◌, List, [], ◌∷◌, length, Bool, false, Option, Some, None, Result, Ok, Err}
use Rattle.std.specs.Prelude.{if◌then◌else◌, ◌==◌}
use Rattle.toml.specs.Data.{Data}
use Rattle.mw_base.specs.declared.cause.Cause.{Cause}
use Rattle.mw_base.specs.declared.cause.Cause.TheVariants.{BadNumber, TooWide, WrongKind, BadValue}
use Rattle.mw_base.specs.Causes.{cause_number}
use Rattle.mw_base.specs.Reading.{◌>>=◌}
use Rattle.mw_board.specs.declared.control.Control.{Control}
use Rattle.mw_board.specs.declared.field.NamedField.{NamedField}
use Rattle.mw_board.specs.Rules.{chosen_rule, list_rule}
use Rattle.mw_boardfile.specs.declared.fault.Fault.{Fault}
use Rattle.mw_boardfile.specs.Values.{whole, at_entry}

-- the number of the first that passes, where the first of them has the number n
unfoldable pub first_place : {A : Type 0} → (A → Bool) → ℕ → List A → Option ℕ
first_place test n [] = None
first_place test n (first ∷ rest) = if test first then Some n else first_place test (n + 1) rest

-- reading gives this cause
abbrev pub is_refused : {A : Type 0} → Cause → Result A Cause → Bool
is_refused cause (Ok x) = false
is_refused cause (Err other) = cause_number other == cause_number cause

-- no entry is refused for this cause; else the first that is
unfoldable pub none_refused : {A : Type 0} → (Data → Result A Cause) → Cause → ℕ → List Data → Result (Unit {0}) Fault
none_refused reader cause n [] = Ok tt
none_refused reader cause n (value ∷ rest) =
    if is_refused cause (reader value) then Err (record { cause = cause; entry = Some n })
    else none_refused reader cause (n + 1) rest

-- each entry, where the first has the number n
unfoldable pub each_of : {A : Type 0} → (Data → Result A Cause) → ℕ → List Data → Result (List A) Fault
each_of reader n [] = Ok []
each_of reader n (value ∷ rest) = do
  first ← at_entry n (reader value)
  others ← each_of reader (n + 1) rest
  Ok (first ∷ others)

-- the faults of a list from which a control chooses: those of the entries for one cause come one after the other, and
-- that of the list as a whole before those of its entries with the same cause
unfoldable pub list_faults : {A : Type 0}
    → (Data → Result A Cause) → List NamedField → Control → List Data → Result (Unit {0}) Fault
list_faults reader fields control values = do
  kinds ← none_refused reader WrongKind 0 values
  numbers ← none_refused reader BadNumber 0 values
  narrow ← none_refused reader TooWide 0 values
  chosen ← whole (chosen_rule control (length values))
  right ← none_refused reader BadValue 0 values
  whole (list_rule fields control (length values))

-- a list from which a control chooses
unfoldable pub chosen_list : {A : Type 0}
    → (Data → Result A Cause) → List NamedField → Control → List Data → Result (List A) Fault
chosen_list reader fields control values = do
  right ← list_faults reader fields control values
  each_of reader 0 values
