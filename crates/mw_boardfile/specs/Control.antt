-- control.POINT.
use Rattle.std.specs.Prelude.{ℕ, ◌-◌, ◌^◌, ℤ, min, List, [], ◌∷◌, codes, Option, Some, None, Result, Ok, Err}
use Rattle.toml.specs.Data.{Data, Members, get_member, as_str, as_integer}
use Rattle.mw_base.specs.declared.cause.Cause.{Cause}
use Rattle.mw_base.specs.declared.cause.Cause.TheVariants.{BadValue, WrongKind}
use Rattle.mw_base.specs.Reading.{◌>>=◌}
use Rattle.mw_board.specs.declared.control.Control.{Control}
use Rattle.mw_board.specs.declared.control.Control.TheVariants.{Field, Fixed}
use Rattle.mw_board.specs.declared.control.Points.{Points}
use Rattle.mw_board.specs.declared.field.NamedField.{NamedField}
use Rattle.mw_board.specs.declared.point.Point.{Point}
use Rattle.mw_board.specs.Points.{all_points, name_of, with_driver, default_points}
use Rattle.mw_board.specs.Rules.{control_rule, driver_rule}
use Rattle.mw_boardfile.specs.declared.fault.KeyFault.{KeyFault}
use Rattle.mw_boardfile.specs.Entries.{if_some, part_number}
use Rattle.mw_boardfile.specs.Fields.{field_number}
use Rattle.mw_boardfile.specs.Values.{below, under, whole, not_negative, table_or_none}

-- a constant. The greatest of 32 bits stands for each that is greater: neither fits a point, and both are past the end
-- of every list
abbrev pub constant : ℤ → Result Control Cause
constant integer = do
  value ← not_negative integer
  Ok (Fixed (min value (2 ^ 32 - 1)))

-- the field of this name
abbrev pub control_field : List NamedField → List ℕ → Result Control Cause
control_field fields name = do
  n ← if_some (field_number fields name) part_number (Err BadValue)
  Ok (Field n)

-- a text or an integer
abbrev pub named_or_constant : List NamedField → Option (List ℕ) → Option ℤ → Result Control Cause
named_or_constant fields (Some name) integer = control_field fields name
named_or_constant fields None (Some integer) = constant integer
named_or_constant fields None None = Err WrongKind

-- a field's name, or a constant
unfoldable pub control_in : List NamedField → Data → Result Control Cause
control_in fields value = do
  control ← named_or_constant fields (as_str value) (as_integer value)
  right ← control_rule fields control
  Ok control

-- what drives a point
unfoldable pub driver_in : List NamedField → Point → Data → Result Control Cause
driver_in fields point value = do
  driver ← named_or_constant fields (as_str value) (as_integer value)
  right ← driver_rule fields point driver
  Ok driver

-- the points so far, and one that is driven as its key says; without a key it stays as it is
abbrev pub given_point : List NamedField → Points → Point → Option Data → Result Points KeyFault
given_point fields points point None = Ok points
given_point fields points point (Some value) = do
  driver ← under (below (codes "control") (name_of point)) (whole (driver_in fields point value))
  Ok (with_driver points point driver)

-- the points so far, and each of these
unfoldable pub each_point : List NamedField → Members → Points → List Point → Result Points KeyFault
each_point fields control points [] = Ok points
each_point fields control points (point ∷ rest) = do
  more ← given_point fields points point (get_member (name_of point) control)
  each_point fields control more rest

-- control: each point, in the order of the format
unfoldable pub points_of : List NamedField → Members → Result Points KeyFault
points_of fields document = do
  control ← under (codes "control") (whole (table_or_none (get_member (codes "control") document)))
  each_point fields control default_points all_points
