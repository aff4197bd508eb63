-- The rules of a board's parts, a definition each. A rule answers nothing, or why the part breaks it.
use Rattle.std.specs.Prelude.{◌≡◌, ℕ, ◌+◌, ◌%◌, ◌^◌, List, [], ◌∷◌, length, slice_get, Bool, not, nat_lt, nat_le, ◌==◌}
use Rattle.std.specs.Prelude.{◌&&◌, ◌||◌, if◌then◌else◌, Option, Some, None, Result, Ok, Err}
use Rattle.std.specs.List.{list_any}
use Rattle.std.specs.Str.{bytes_eq}
use Rattle.mw_base.specs.declared.cause.Cause.{Cause}
use Rattle.mw_base.specs.declared.cause.Cause.TheVariants.{FieldOutside, SelectTooWide, BadWidth, MapSize, TooMany}
use Rattle.mw_base.specs.declared.cause.Cause.TheVariants.{BadValue, Twice}
use Rattle.mw_base.specs.Names.{is_name}
use Rattle.mw_board.specs.declared.bit.Bit.{Bit}
use Rattle.mw_board.specs.declared.bit.Bit.TheVariants as bits
use Rattle.mw_board.specs.declared.bit.DFrom.{DFrom}
use Rattle.mw_board.specs.declared.bit.DFrom.TheVariants as sources
use Rattle.mw_board.specs.declared.bit.DSource.{DSource}
use Rattle.mw_board.specs.declared.bit.Load.{Load}
use Rattle.mw_board.specs.declared.bit.Load.TheVariants as loads
use Rattle.mw_board.specs.declared.control.Control.{Control}
use Rattle.mw_board.specs.declared.control.Control.TheVariants as controls
use Rattle.mw_board.specs.declared.control.Points.{Points}
use Rattle.mw_board.specs.declared.field.NamedField.{NamedField}
use Rattle.mw_board.specs.declared.flipflop.FlipFlop.{FlipFlop}
use Rattle.mw_board.specs.declared.point.Point.{Point}
use Rattle.mw_board.specs.Elements.{is_reserved}
use Rattle.mw_board.specs.Points.{bits_of, driver_of}

-- what a rule answers
abbrev pub Verdict : Type 0
Verdict = Result (Unit {0}) Cause

-- the cause, where the test doesn't hold
abbrev pub ask : Bool → Cause → Verdict
ask test cause = if test then Ok tt else Err cause

-- all of these, in their order; the first that fails
abbrev pub all_of : {F : Type 0} → List (Result (Unit {0}) F) → Result (Unit {0}) F
all_of [] = Ok tt
all_of (Ok done ∷ rest) = all_of rest
all_of (Err fault ∷ rest) = Err fault

-- ---- sizes

-- 4 to 32 bits, a multiple of 4
unfoldable pub width_rule : ℕ → Verdict
width_rule width = ask (nat_le 4 width && (nat_le width 32 && (width % 4 == 0))) BadWidth

-- 1 to 128 bits
unfoldable pub microword_rule : ℕ → Verdict
microword_rule microword = ask (nat_le 1 microword && nat_le microword 128) BadWidth

-- 1 to 16 bits, and no more than the width
unfoldable pub address_rule : ℕ → ℕ → Verdict
address_rule width address = ask (nat_le 1 address && (nat_le address width && nat_le address 16)) BadWidth

-- a microword of so many bits
unfoldable pub word_rule : ℕ → ℕ → Verdict
word_rule microword word = ask (nat_lt word (2 ^ microword)) BadValue

-- a control address, of 12 bits
unfoldable pub vector_rule : ℕ → Verdict
vector_rule vector = ask (nat_lt vector 4096) BadValue

-- the words of a stack, as many as that of an Am2910 or of an Am2910A
unfoldable pub stack_rule : ℕ → Verdict
stack_rule stack = ask (stack == 5 || stack == 9) BadValue

-- ---- fields and flip-flops

-- at most 64 fields
unfoldable pub fields_rule : ℕ → Verdict
fields_rule count = ask (nat_le count 64) TooMany

-- the name of a field
unfoldable pub name_rule : List ℕ → Verdict
name_rule name = ask (is_name name) BadValue

-- a field of 1 to 32 bits that lies within the microword
unfoldable pub field_rule : ℕ → ℕ → ℕ → Verdict
field_rule microword low width = all_of (
    ask (nat_le 1 width && nat_le width 32) BadWidth
    ∷ ask (nat_le (low + width) microword) FieldOutside
    ∷ [])

-- at most 16 flip-flops
unfoldable pub flipflops_rule : ℕ → Verdict
flipflops_rule count = ask (nat_le count 16) TooMany

-- one of the flip-flops has the name
abbrev pub is_flipflop_name : List FlipFlop → List ℕ → Bool
is_flipflop_name flipflops name = list_any (λ f. bytes_eq name f.name) flipflops

-- the name of a flip-flop, on a board whose stack has so many words: no other element's, and none of the flip-flops
-- before it
unfoldable pub flipflop_name_rule : ℕ → List FlipFlop → List ℕ → Verdict
flipflop_name_rule depth earlier name = all_of (
    ask (is_name name) BadValue
    ∷ ask (not (is_reserved depth name)) Twice
    ∷ ask (not (is_flipflop_name earlier name)) Twice
    ∷ [])

-- ---- control points

-- the width of a field; 0 where there is none
abbrev pub width_of : Option NamedField → ℕ
width_of (Some f) = f.field.width
width_of None = 0

-- a control that is a field is one of the fields
unfoldable pub control_rule : List NamedField → Control → Verdict
control_rule fields (controls.Field n) = ask (nat_lt n (length fields)) BadValue
control_rule fields (controls.Fixed value) = Ok tt

-- the control of a point of so many bits: one of the fields, of no more bits; or a constant of no more
unfoldable pub point_rule : ℕ → List NamedField → Control → Verdict
point_rule bits fields (controls.Field n) = all_of (
    ask (nat_lt n (length fields)) BadValue
    ∷ ask (nat_le (width_of (slice_get fields n)) bits) SelectTooWide
    ∷ [])
point_rule bits fields (controls.Fixed value) = ask (nat_lt value (2 ^ bits)) BadValue

-- the rule of what drives a point: by its bits, or as what chooses
abbrev pub driver_of_bits_rule : Option ℕ → List NamedField → Control → Verdict
driver_of_bits_rule (Some bits) fields driver = point_rule bits fields driver
driver_of_bits_rule None fields driver = control_rule fields driver

-- the rule of what drives a point
abbrev pub driver_rule : List NamedField → Point → Control → Verdict
driver_rule fields point driver = driver_of_bits_rule (bits_of point) fields driver

-- the rule of what drives it is kept at each point
abbrev pub DriversKeep : List NamedField → Points → Type 0
DriversKeep fields control = (point : Point) → driver_rule fields point (driver_of control point) ≡ Ok tt

-- ---- lists

-- a list has an entry, and the constant that chooses from it is the number of one
unfoldable pub chosen_rule : Control → ℕ → Verdict
chosen_rule (controls.Field n) entries = ask (nat_lt 0 entries) BadValue
chosen_rule (controls.Fixed value) entries = ask (nat_lt value entries) BadValue

-- the field that chooses from a list has a value for each entry; and there are at most 64
unfoldable pub list_rule : List NamedField → Control → ℕ → Verdict
list_rule fields (controls.Field n) entries = all_of (
    ask (nat_le entries (2 ^ width_of (slice_get fields n))) SelectTooWide
    ∷ ask (nat_le entries 64) TooMany
    ∷ [])
list_rule fields (controls.Fixed value) entries = ask (nat_le entries 64) TooMany

-- a bit of the instruction register, and one of so many flip-flops
unfoldable pub bit_rule : ℕ → ℕ → Bit → Verdict
bit_rule width flipflops (bits.Ir n) = ask (nat_lt n width) BadValue
bit_rule width flipflops (bits.Flip n) = ask (nat_lt n flipflops) BadValue
bit_rule width flipflops other = Ok tt

-- a bit that is known before F is
unfoldable pub carry_in_rule : ℕ → ℕ → Bit → Verdict
carry_in_rule width flipflops bits.Carry = Err BadValue
carry_in_rule width flipflops bits.Overflow = Err BadValue
carry_in_rule width flipflops bits.FZero = Err BadValue
carry_in_rule width flipflops bits.Sign = Err BadValue
carry_in_rule width flipflops bits.FLow = Err BadValue
carry_in_rule width flipflops bits.FHigh = Err BadValue
carry_in_rule width flipflops other = bit_rule width flipflops other

-- what a flip-flop takes
unfoldable pub load_rule : ℕ → ℕ → Load → Verdict
load_rule width flipflops (loads.Take bit) = bit_rule width flipflops bit
load_rule width flipflops other = Ok tt

-- one of so many fields, and one of so many flip-flops
unfoldable pub source_rule : ℕ → ℕ → DFrom → Verdict
source_rule fields flipflops (sources.Field n) = ask (nat_lt n fields) BadValue
source_rule fields flipflops (sources.Flip n) = ask (nat_lt n flipflops) BadValue
source_rule fields flipflops other = Ok tt

-- a mask of no more bits than the width
unfoldable pub mask_rule : ℕ → Option ℕ → Verdict
mask_rule width None = Ok tt
mask_rule width (Some mask) = ask (nat_lt mask (2 ^ width)) BadValue

-- a source of D
unfoldable pub d_source_rule : ℕ → ℕ → ℕ → DSource → Verdict
d_source_rule width fields flipflops source =
    all_of (source_rule fields flipflops source.from ∷ mask_rule width source.mask ∷ [])

-- ---- the map

-- at most 8 bits, within the instruction register
unfoldable pub map_bits_rule : ℕ → ℕ → ℕ → Verdict
map_bits_rule width low bits = ask (nat_le bits 8 && nat_le (low + bits) width) MapSize

-- a control address, of 12 bits
unfoldable pub map_entry_rule : ℕ → Verdict
map_entry_rule entry = ask (nat_lt entry 4096) BadValue

-- how many entries a map of so many bits has: one for each of their values; none where there are no bits
abbrev pub map_size : ℕ → ℕ
map_size bits = if bits == 0 then 0 else 2 ^ bits

-- as many entries as that
unfoldable pub map_entries_rule : ℕ → ℕ → Verdict
map_entries_rule bits entries = ask (entries == map_size bits) MapSize
