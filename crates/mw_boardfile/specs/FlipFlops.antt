-- flipflop.
use Rattle.std.specs.Prelude.{ℕ, ◌+◌, List, [], ◌∷◌, ◌++◌, codes, length, Option, Result, Ok}
use Rattle.toml.specs.Data.{Data, Members, get_member, as_str, as_table}
use Rattle.mw_base.specs.declared.cause.Cause.{Cause}
use Rattle.mw_base.specs.declared.cause.Cause.TheVariants.{WrongKind}
use Rattle.mw_base.specs.Numbers.{decimal}
use Rattle.mw_base.specs.Reading.{◌>>=◌}
use Rattle.mw_board.specs.declared.bit.Load.{Load}
use Rattle.mw_board.specs.declared.control.Control.{Control}
use Rattle.mw_board.specs.declared.field.NamedField.{NamedField}
use Rattle.mw_board.specs.declared.flipflop.FlipFlop.{FlipFlop}
use Rattle.mw_board.specs.Rules.{flipflops_rule, flipflop_name_rule}
use Rattle.mw_boardfile.specs.declared.fault.Fault.{Fault}
use Rattle.mw_boardfile.specs.declared.fault.KeyFault.{KeyFault}
use Rattle.mw_boardfile.specs.declared.sizes.BoardSizes.{BoardSizes}
use Rattle.mw_boardfile.specs.Control.{control_in}
use Rattle.mw_boardfile.specs.Entries.{load_in}
use Rattle.mw_boardfile.specs.Lists.{none_refused, chosen_list}
use Rattle.mw_boardfile.specs.Values.{below, under, whole, required, kind, list, list_or_none}

-- a value that is a table
unfoldable pub table_kind : Data → Result (Unit {0}) Cause
table_kind value = do
  table ← kind (as_table value)
  Ok tt

-- the tables of the flip-flops
unfoldable pub tables_in : Option Data → Result (List Data) Fault
tables_in given = do
  values ← whole (list_or_none given)
  kinds ← none_refused table_kind WrongKind 0 values
  few ← whole (flipflops_rule (length values))
  Ok values

-- name: of no other element of a board of such a stack, and of no flip-flop before
unfoldable pub name_in : ℕ → List FlipFlop → Option Data → Result (List ℕ) Cause
name_in stack earlier given = do
  value ← required given
  name ← kind (as_str value)
  new ← flipflop_name_rule stack earlier name
  Ok name

-- control: a field's name, or a constant
unfoldable pub flip_control_in : List NamedField → Option Data → Result Control Cause
flip_control_in fields given = do
  value ← required given
  control_in fields value

-- the values of a required list
unfoldable pub load_values_in : Option Data → Result (List Data) Cause
load_values_in given = do
  value ← required given
  list value

-- load: a list of loads
unfoldable pub loads_in : ℕ → List NamedField → List Data → Control → Option Data → Result (List Load) Fault
loads_in width fields flipflops control given = do
  values ← whole (load_values_in given)
  chosen_list (load_in width flipflops) fields control values

-- the three keys under a flip-flop's
abbrev pub name_of : List ℕ → ℕ → List FlipFlop → Members → Result (List ℕ) KeyFault
name_of key stack earlier table =
    under (below key (codes "name")) (whole (name_in stack earlier (get_member (codes "name") table)))

-- the control of a flip-flop, at its key
abbrev pub control_of : List ℕ → List NamedField → Members → Result Control KeyFault
control_of key fields table =
    under (below key (codes "control")) (whole (flip_control_in fields (get_member (codes "control") table)))

-- the loads of a flip-flop, at their key
abbrev pub loads_of : List ℕ → ℕ → List NamedField → List Data → Control → Members → Result (List Load) KeyFault
loads_of key width fields flipflops control table =
    under (below key (codes "load")) (loads_in width fields flipflops control (get_member (codes "load") table))

-- a flip-flop, after the earlier ones
unfoldable pub flipflop_of : BoardSizes → List NamedField → List Data → List FlipFlop → List ℕ → Members
    → Result FlipFlop KeyFault
flipflop_of sizes fields flipflops earlier key table = do
  name ← name_of key sizes.stack earlier table
  control ← control_of key fields table
  load ← loads_of key sizes.width fields flipflops control table
  Ok (record { name = name; control = control; load = load })

-- the flip-flop of a value
unfoldable pub flipflop_at : BoardSizes → List NamedField → List Data → List FlipFlop → ℕ → Data → Result FlipFlop KeyFault
flipflop_at sizes fields flipflops earlier n value = do
  table ← under (below (codes "flipflop") (decimal n)) (whole (kind (as_table value)))
  flipflop_of sizes fields flipflops earlier (below (codes "flipflop") (decimal n)) table

-- the earlier flip-flops, and those of the values after them, of which the first has the number n
unfoldable pub each_flipflop : BoardSizes → List NamedField → List Data → List FlipFlop → ℕ → List Data
    → Result (List FlipFlop) KeyFault
each_flipflop sizes fields flipflops earlier n [] = Ok earlier
each_flipflop sizes fields flipflops earlier n (value ∷ rest) = do
  flipflop ← flipflop_at sizes fields flipflops earlier n value
  each_flipflop sizes fields flipflops (earlier ++ flipflop ∷ []) (n + 1) rest
