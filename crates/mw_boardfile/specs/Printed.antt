-- What is printed for a board: the values under the keys of its file.
use Rattle.std.specs.Prelude.{◌≡◌, ℕ, pos, List, map, [], ◌∷◌, ◌++◌, codes, slice_get, Bool, true, false, ◌&&◌, Option}
use Rattle.std.specs.Prelude.{Some, None, if◌then◌else◌, ◌==◌}
use Rattle.toml.specs.Data.{Data, integer, string, array, table, Members, no_members, member}
use Rattle.toml.specs.View.{items_of}
use Rattle.mw_base.specs.Numbers.{hex, decimal}
use Rattle.mw_board.specs.declared.bit.Bit.{Bit}
use Rattle.mw_board.specs.declared.bit.Bit.TheVariants as bits
use Rattle.mw_board.specs.declared.bit.DFrom.{DFrom}
use Rattle.mw_board.specs.declared.bit.DFrom.TheVariants as sources
use Rattle.mw_board.specs.declared.bit.DSource.{DSource}
use Rattle.mw_board.specs.declared.bit.Load.{Load}
use Rattle.mw_board.specs.declared.bit.Load.TheVariants as loads
use Rattle.mw_board.specs.declared.control.Control.{Control}
use Rattle.mw_board.specs.declared.control.Control.TheVariants.{Field, Fixed}
use Rattle.mw_board.specs.declared.control.Points.{Points}
use Rattle.mw_board.specs.declared.field.NamedField.{NamedField}
use Rattle.mw_board.specs.declared.flipflop.FlipFlop.{FlipFlop}
use Rattle.mw_board.specs.declared.parts.BoardParts.{BoardParts}
use Rattle.mw_board.specs.declared.point.Point.{Point}
use Rattle.mw_board.specs.declared.point.Point.TheVariants.{Ci}
use Rattle.mw_board.specs.Points.{all_points, name_of, driver_of}
use Rattle.mw_boardfile.specs.Document.{document_of}
use Rattle.mw_boardfile.specs.Tables.{put, Entry, table_of}

-- an integer
abbrev pub integer_of : ℕ → Data
integer_of n = integer (pos n)

-- a number as a text
abbrev pub text_of : ℕ → Data
text_of n = string (hex n)

-- a number that isn't printed where it is 0
abbrev pub unless_zero : (ℕ → Data) → ℕ → Option Data
unless_zero printed n = if n == 0 then None else Some (printed n)

-- version to stack
abbrev pub sizes_printed : BoardParts → List Entry
sizes_printed p =
    (codes "version", Some (integer_of 2))
    ∷ (codes "width", Some (integer_of p.width))
    ∷ (codes "microword", Some (integer_of p.microword))
    ∷ (codes "address", Some (integer_of p.address))
    ∷ (codes "fill", Some (text_of p.fill))
    ∷ (codes "unset", unless_zero text_of p.unset)
    ∷ (codes "vector", unless_zero integer_of p.vector)
    ∷ (codes "stack", Some (integer_of p.stack))
    ∷ []

-- ---- fields

-- a list of values
abbrev pub list_of : List Data → Data
list_of values = array (items_of values)

-- a table that isn't printed where it has no members
abbrev pub unless_empty : Members → Option Data
unless_empty no_members = None
unless_empty (member key value rest) = Some (table (member key value rest))

-- [low, width]
abbrev pub field_printed : NamedField → Data
field_printed f = list_of (integer_of f.field.low ∷ integer_of f.field.width ∷ [])

-- fields.NAME
abbrev pub fields_printed : List NamedField → Members
fields_printed [] = no_members
fields_printed (f ∷ rest) = put f.name (field_printed f) (fields_printed rest)

-- ---- control points

-- the constant that drives a point whose key isn't there
abbrev pub usual_constant : Point → ℕ
usual_constant Ci = 1
usual_constant other = 0

-- the name of a field
abbrev pub field_name : Option NamedField → List ℕ
field_name None = []
field_name (Some f) = f.name

-- a field's name, or a constant
abbrev pub control_printed : List NamedField → Control → Data
control_printed fields (Field n) = string (field_name (slice_get fields n))
control_printed fields (Fixed value) = integer_of value

-- what drives a point, where that isn't what drives it without a key
abbrev pub driver_printed : List NamedField → Point → Control → Option Data
driver_printed fields point (Field n) = Some (control_printed fields (Field n))
driver_printed fields point (Fixed value) =
    if value == usual_constant point then None else Some (integer_of value)

-- a point's key
abbrev pub point_printed : List NamedField → Points → Point → Entry
point_printed fields points point = (name_of point, driver_printed fields point (driver_of points point))

-- control
abbrev pub points_printed : List NamedField → Points → List Entry
points_printed fields points = map (point_printed fields points) all_points

-- ---- the map

-- a list that isn't printed where it has no entries
abbrev pub list_unless_empty : List Data → Option Data
list_unless_empty [] = None
list_unless_empty (first ∷ rest) = Some (list_of (first ∷ rest))

-- map.low, map.bits and map.entries
abbrev pub map_printed : BoardParts → List Entry
map_printed p =
    (codes "low", unless_zero integer_of p.map_low)
    ∷ (codes "bits", unless_zero integer_of p.map_bits)
    ∷ (codes "entries", list_unless_empty (map integer_of p.map_entries))
    ∷ []

-- ---- bits

-- the name of a flip-flop
abbrev pub flipflop_name : Option FlipFlop → List ℕ
flipflop_name None = []
flipflop_name (Some f) = f.name

-- a bit as a text
abbrev pub bit_text : List FlipFlop → Bit → List ℕ
bit_text flipflops bits.Zero = codes "zero"
bit_text flipflops bits.One = codes "one"
bit_text flipflops bits.Carry = codes "carry"
bit_text flipflops bits.Overflow = codes "overflow"
bit_text flipflops bits.FZero = codes "f_zero"
bit_text flipflops bits.Sign = codes "sign"
bit_text flipflops bits.FLow = codes "f_low"
bit_text flipflops bits.FHigh = codes "f_high"
bit_text flipflops bits.QLow = codes "q_low"
bit_text flipflops bits.QHigh = codes "q_high"
bit_text flipflops bits.Line = codes "line"
bit_text flipflops bits.Full = codes "full"
bit_text flipflops (bits.Ir n) = codes "ir:" ++ decimal n
bit_text flipflops (bits.Flip n) = codes "ff:" ++ flipflop_name (slice_get flipflops n)

-- a bit
abbrev pub bit_printed : List FlipFlop → Bit → Data
bit_printed flipflops bit = string (bit_text flipflops bit)

-- ---- flip-flops

-- a load as a text
abbrev pub load_text : List FlipFlop → Load → List ℕ
load_text flipflops loads.Hold = codes "hold"
load_text flipflops loads.Invert = codes "invert"
load_text flipflops loads.XorCarry = codes "xor_carry"
load_text flipflops (loads.Take bit) = bit_text flipflops bit

-- a load
abbrev pub load_printed : List FlipFlop → Load → Data
load_printed flipflops load = string (load_text flipflops load)

-- name, control and load
abbrev pub flipflop_keys_printed : List NamedField → List FlipFlop → FlipFlop → List Entry
flipflop_keys_printed fields flipflops f =
    (codes "name", Some (string f.name))
    ∷ (codes "control", Some (control_printed fields f.control))
    ∷ (codes "load", Some (list_of (map (load_printed flipflops) f.load)))
    ∷ []

-- a flip-flop
abbrev pub flipflop_printed : List NamedField → List FlipFlop → FlipFlop → Data
flipflop_printed fields flipflops f = table (table_of (flipflop_keys_printed fields flipflops f))

-- flipflop
abbrev pub flipflops_printed : List NamedField → List FlipFlop → List Data
flipflops_printed fields flipflops = map (flipflop_printed fields flipflops) flipflops

-- ---- lists from which control points choose

-- the source of D without its mask
abbrev pub from_text : List NamedField → List FlipFlop → DFrom → List ℕ
from_text fields flipflops sources.Zero = codes "zero"
from_text fields flipflops sources.Memory = codes "memory"
from_text fields flipflops sources.Ir = codes "ir"
from_text fields flipflops sources.Mar = codes "mar"
from_text fields flipflops sources.Input = codes "input"
from_text fields flipflops (sources.Field n) = codes "field:" ++ field_name (slice_get fields n)
from_text fields flipflops (sources.Flip n) = codes "ff:" ++ flipflop_name (slice_get flipflops n)

-- a text, and behind & (38) the mask, where there is one
abbrev pub masked_text : List ℕ → Option ℕ → List ℕ
masked_text text None = text
masked_text text (Some mask) = text ++ 38 ∷ hex mask

-- a source of D
abbrev pub source_printed : List NamedField → List FlipFlop → DSource → Data
source_printed fields flipflops source = string (masked_text (from_text fields flipflops source.from) source.mask)

-- a list of one entry that passes
abbrev pub is_alone : {A : Type 0} → (A → Bool) → List A → Bool
is_alone passes [] = false
is_alone passes (entry ∷ []) = passes entry
is_alone passes (entry ∷ other ∷ rest) = false

-- a list that isn't printed where it has the one entry zero
abbrev pub list_unless_zero : {A : Type 0} → (A → Bool) → (A → Data) → List A → Option Data
list_unless_zero is_zero printed entries =
    if is_alone is_zero entries then None else Some (list_of (map printed entries))

-- the bit is zero
abbrev pub is_zero_bit : Bit → Bool
is_zero_bit bits.Zero = true
is_zero_bit other = false

-- the source is zero, whatever its mask
abbrev pub is_zero_from : DFrom → Bool
is_zero_from sources.Zero = true
is_zero_from other = false

-- there is no mask
abbrev pub has_no_mask : Option ℕ → Bool
has_no_mask None = true
has_no_mask (Some mask) = false

-- the source is zero, without a mask
abbrev pub is_zero_source : DSource → Bool
is_zero_source source = has_no_mask source.mask && is_zero_from source.from

-- select.LIST, of bits
abbrev pub bits_printed : List FlipFlop → List Bit → Option Data
bits_printed flipflops entries = list_unless_zero is_zero_bit (bit_printed flipflops) entries

-- select.d
abbrev pub sources_printed : List NamedField → List FlipFlop → List DSource → Option Data
sources_printed fields flipflops entries = list_unless_zero is_zero_source (source_printed fields flipflops) entries

-- select
abbrev pub lists_printed : BoardParts → List Entry
lists_printed p =
    (codes "carry_in", bits_printed p.flipflop p.carry_in)
    ∷ (codes "condition", bits_printed p.flipflop p.condition)
    ∷ (codes "ram_link", bits_printed p.flipflop p.ram_link)
    ∷ (codes "q_link", bits_printed p.flipflop p.q_link)
    ∷ (codes "d", sources_printed p.fields p.flipflop p.d)
    ∷ []

-- ---- the file

-- fields to map
abbrev pub tables_printed : BoardParts → List Entry
tables_printed p =
    (codes "fields", unless_empty (fields_printed p.fields))
    ∷ (codes "flipflop", list_unless_empty (flipflops_printed p.fields p.flipflop))
    ∷ (codes "control", unless_empty (table_of (points_printed p.fields p.control)))
    ∷ (codes "select", unless_empty (table_of (lists_printed p)))
    ∷ (codes "map", unless_empty (table_of (map_printed p)))
    ∷ []

-- the keys of the file
unfoldable pub document_printed : BoardParts → List Entry
document_printed p = sizes_printed p ++ tables_printed p

-- a text is the file that is printed for a board: a document of these keys
abbrev pub IsPrinted : BoardParts → List ℕ → Type 0
IsPrinted p text = document_of text ≡ Some (table_of (document_printed p))
