-- The rules of boards in the order of a board file's keys, and within a key by the order of causes. Each stands with
-- its key's number.
use Rattle.std.specs.Prelude.{ℕ, ◌+◌, min, List, [], ◌∷◌, ◌++◌, length, Result, Ok, Err}
use Rattle.mw_board.specs.declared.control.Control.{Control}
use Rattle.mw_board.specs.declared.fault.PartFault.{PartFault}
use Rattle.mw_board.specs.declared.field.NamedField.{NamedField}
use Rattle.mw_board.specs.declared.flipflop.FlipFlop.{FlipFlop}
use Rattle.mw_board.specs.declared.control.Points.{Points}
use Rattle.mw_board.specs.declared.parts.BoardParts.{BoardParts}
use Rattle.mw_board.specs.declared.point.Point.{Point}
use Rattle.mw_board.specs.Depth.{depth_of}
use Rattle.mw_board.specs.Keys.{width_key, microword_key, address_key, fill_key, unset_key, vector_key, stack_key}
use Rattle.mw_board.specs.Keys.{fields_key, flipflop_key, name_key, control_key, load_key, first_point_key, carry_in_key}
use Rattle.mw_board.specs.Keys.{condition_key, ram_link_key, q_link_key, d_key, map_bits_key, map_entries_key}
use Rattle.mw_board.specs.Points.{all_points, driver_of}
use Rattle.mw_board.specs.Rules.{Verdict, all_of, width_rule, microword_rule, address_rule, word_rule, vector_rule}
use Rattle.mw_board.specs.Rules.{stack_rule}
use Rattle.mw_board.specs.Rules.{fields_rule, name_rule, field_rule, flipflops_rule, flipflop_name_rule, control_rule}
use Rattle.mw_board.specs.Rules.{driver_rule, chosen_rule, list_rule, bit_rule, carry_in_rule, load_rule, d_source_rule}
use Rattle.mw_board.specs.Rules.{map_bits_rule, map_entry_rule, map_entries_rule}

-- what a board's parts, or some of them, are answered with
abbrev pub Checked : Type 0
Checked = Result (Unit {0}) PartFault

-- the answer of a rule, with the place of the part
abbrev pub placed : ℕ → ℕ → ℕ → Verdict → Checked
placed row index entry (Ok done) = Ok done
placed row index entry (Err cause) = Err (record { cause = cause; row = row; index = index; entry = entry })

-- a number of 16 bits; the last one stands for each that is greater
abbrev pub number_16 : ℕ → ℕ
number_16 n = min n 65535

-- the rule of a key that is no list
abbrev pub at_key : ℕ → Verdict → Checked
at_key row verdict = placed row 0 0 verdict

-- the rule of a flip-flop's key
abbrev pub at_flipflop : ℕ → ℕ → Verdict → Checked
at_flipflop row i verdict = placed row (number_16 i) 0 verdict

-- the rule of entry n of a list
abbrev pub in_list : ℕ → ℕ → Verdict → Checked
in_list row n verdict = placed row (number_16 n) 0 verdict

-- the rule of entry n of flip-flop i's loads
abbrev pub in_load : ℕ → ℕ → Verdict → Checked
in_load i n verdict = placed load_key (number_16 i) (number_16 n) verdict

-- one rule on each entry, from the entry n on
unfoldable pub each_from : {A : Type 0} → (ℕ → A → Checked) → ℕ → List A → Checked
each_from rule n [] = Ok tt
each_from rule n (first ∷ rest) = all_of (rule n first ∷ each_from rule (n + 1) rest ∷ [])

-- a list from which a control chooses
unfoldable pub list_check : {A : Type 0}
    → (ℕ → Verdict → Checked) → List NamedField → Control → (A → Verdict) → List A → Checked
list_check place fields control rule entries = all_of (
    place 0 (chosen_rule control (length entries))
    ∷ each_from (λ n entry. place n (rule entry)) 0 entries
    ∷ place 0 (list_rule fields control (length entries))
    ∷ [])

-- version is no part. The sizes, and the words: width, microword, address, fill, unset, vector, stack
abbrev pub sizes_tests : BoardParts → List Checked
sizes_tests p =
    at_key width_key (width_rule p.width)
    ∷ at_key microword_key (microword_rule p.microword)
    ∷ at_key address_key (address_rule p.width p.address)
    ∷ at_key fill_key (word_rule p.microword p.fill)
    ∷ at_key unset_key (word_rule p.microword p.unset)
    ∷ at_key vector_key (vector_rule p.vector)
    ∷ at_key stack_key (stack_rule p.stack)
    ∷ []

-- the sizes and the words
unfoldable pub sizes_check : BoardParts → Checked
sizes_check p = all_of (sizes_tests p)

-- fields.NAME
abbrev pub field_check : ℕ → ℕ → NamedField → Checked
field_check microword n f = all_of (
    in_list fields_key n (name_rule f.name)
    ∷ in_list fields_key n (field_rule microword f.field.low f.field.width)
    ∷ [])

-- fields
unfoldable pub fields_check : BoardParts → Checked
fields_check p =
    all_of (at_key fields_key (fields_rule (length p.fields)) ∷ each_from (field_check p.microword) 0 p.fields ∷ [])

-- a flip-flop's name, control and load
unfoldable pub flipflop_check : BoardParts → List FlipFlop → ℕ → FlipFlop → Checked
flipflop_check p earlier i f = all_of (
    at_flipflop name_key i (flipflop_name_rule (depth_of p) earlier f.name)
    ∷ at_flipflop control_key i (control_rule p.fields f.control)
    ∷ list_check (in_load i) p.fields f.control (load_rule p.width (length p.flipflop)) f.load
    ∷ [])

-- each flip-flop, after the earlier ones
unfoldable pub flipflops_from : BoardParts → List FlipFlop → ℕ → List FlipFlop → Checked
flipflops_from p earlier i [] = Ok tt
flipflops_from p earlier i (first ∷ rest) =
    all_of (flipflop_check p earlier i first ∷ flipflops_from p (earlier ++ first ∷ []) (i + 1) rest ∷ [])

-- flipflop
unfoldable pub flipflops_check : BoardParts → Checked
flipflops_check p = all_of (
    at_key flipflop_key (flipflops_rule (length p.flipflop))
    ∷ flipflops_from p [] 0 p.flipflop
    ∷ [])

-- control.POINT, in the order of the table
abbrev pub point_check : List NamedField → Points → ℕ → Point → Checked
point_check fields control n point = at_key (first_point_key + n) (driver_rule fields point (driver_of control point))

-- all control points
unfoldable pub points_check : BoardParts → Checked
points_check p = each_from (point_check p.fields p.control) 0 all_points

-- select.LIST
abbrev pub lists_tests : BoardParts → List Checked
lists_tests p =
    list_check (in_list carry_in_key) p.fields p.control.carry_in (carry_in_rule p.width (length p.flipflop)) p.carry_in
    ∷ list_check (in_list condition_key) p.fields p.control.condition (bit_rule p.width (length p.flipflop)) p.condition
    ∷ list_check (in_list ram_link_key) p.fields p.control.link (bit_rule p.width (length p.flipflop)) p.ram_link
    ∷ list_check (in_list q_link_key) p.fields p.control.link (bit_rule p.width (length p.flipflop)) p.q_link
    ∷ list_check (in_list d_key) p.fields p.control.d (d_source_rule p.width (length p.fields) (length p.flipflop)) p.d
    ∷ []

-- all lists
unfoldable pub lists_check : BoardParts → Checked
lists_check p = all_of (lists_tests p)

-- map.low has no rule of its own; map.bits, map.entries
unfoldable pub map_check : BoardParts → Checked
map_check p = all_of (
    at_key map_bits_key (map_bits_rule p.width p.map_low p.map_bits)
    ∷ each_from (λ n entry. in_list map_entries_key n (map_entry_rule entry)) 0 p.map_entries
    ∷ at_key map_entries_key (map_entries_rule p.map_bits (length p.map_entries))
    ∷ [])

-- all rules of a board
unfoldable pub check_of : BoardParts → Checked
check_of p =
    all_of (sizes_check p ∷ fields_check p ∷ flipflops_check p ∷ points_check p ∷ lists_check p ∷ map_check p ∷ [])
