-- What is so of every board: each part is in its range, and what names another part names one that there is.
use Rattle.std.specs.Prelude.{◌≡◌, ℕ, ◌+◌, ◌%◌, ◌^◌, ◌<◌, ◌≤◌, List, length, slice_get, All, Option, Some, None}
use Rattle.mw_board.specs.declared.bit.Bit.{Bit}
use Rattle.mw_board.specs.declared.bit.Bit.TheVariants as bits
use Rattle.mw_board.specs.declared.bit.DFrom.{DFrom}
use Rattle.mw_board.specs.declared.bit.DFrom.TheVariants as sources
use Rattle.mw_board.specs.declared.bit.DSource.{DSource}
use Rattle.mw_board.specs.declared.bit.Load.{Load}
use Rattle.mw_board.specs.declared.bit.Load.TheVariants as loads
use Rattle.mw_board.specs.declared.control.Control.{Control}
use Rattle.mw_board.specs.declared.control.Control.TheVariants as controls
use Rattle.mw_board.specs.declared.control.Points.{Points}
use Rattle.mw_board.specs.declared.field.NamedField.{NamedField}
use Rattle.mw_board.specs.declared.flipflop.FlipFlop.{FlipFlop}
use Rattle.mw_board.specs.declared.parts.BoardParts.{BoardParts}
use Rattle.mw_board.specs.Rules.{width_of, map_size}
use Rattle.mw_board.specs.Depth.{depth_of}

-- the sizes and the words
pub record AreSizes (p : BoardParts) : Type 0 where
  pub least : 4 ≤ p.width
  pub most : p.width ≤ 32
  pub slices : p.width % 4 ≡ 0
  pub microword_some : 1 ≤ p.microword
  pub microword_most : p.microword ≤ 128
  pub address_some : 1 ≤ p.address
  pub address_within : p.address ≤ p.width
  pub address_most : p.address ≤ 16
  pub fill : p.fill < 2 ^ p.microword
  pub unset : p.unset < 2 ^ p.microword
  pub vector : p.vector < 2 ^ 12
  pub stack : p.stack ≡ depth_of p

-- a field of 1 to 32 bits, all of them in the microword
pub record IsField (microword : ℕ) (f : NamedField) : Type 0 where
  pub some : 1 ≤ f.field.width
  pub most : f.field.width ≤ 32
  pub within : f.field.low + f.field.width ≤ microword

-- a control is one of the fields, or a constant
abbrev pub IsControl : List NamedField → Control → Type 0
IsControl fields (controls.Field n) = n < length fields
IsControl fields (controls.Fixed value) = Unit {0}

-- a control of a point of so many bits: a field of no more bits, or a constant of no more
abbrev pub IsPoint : ℕ → List NamedField → Control → Type 0
IsPoint bits fields (controls.Field n) = (n < length fields) × (width_of (slice_get fields n) ≤ bits)
IsPoint bits fields (controls.Fixed value) = value < 2 ^ bits

-- the points that take a number
pub record ArePoints (fields : List NamedField) (control : Points) : Type 0 where
  pub alu_source : IsPoint 3 fields control.alu_source
  pub alu_function : IsPoint 3 fields control.alu_function
  pub alu_destination : IsPoint 3 fields control.alu_destination
  pub a_address : IsPoint 4 fields control.a_address
  pub b_address : IsPoint 4 fields control.b_address
  pub sequencer : IsPoint 4 fields control.sequencer
  pub branch : IsPoint 12 fields control.branch
  pub test_disable : IsPoint 1 fields control.test_disable
  pub polarity : IsPoint 1 fields control.polarity
  pub ci : IsPoint 1 fields control.ci
  pub rld : IsPoint 1 fields control.rld
  pub mar_load : IsPoint 1 fields control.mar_load
  pub ir_load : IsPoint 1 fields control.ir_load
  pub memory_write : IsPoint 1 fields control.memory_write
  pub out : IsPoint 1 fields control.out

-- a bit that names a bit of the instruction register, or a flip-flop, names one that there is
abbrev pub IsBit : ℕ → ℕ → Bit → Type 0
IsBit width flipflops (bits.Ir n) = n < width
IsBit width flipflops (bits.Flip n) = n < flipflops
IsBit width flipflops other = Unit {0}

-- so does a load that takes a bit
abbrev pub IsLoad : ℕ → ℕ → Load → Type 0
IsLoad width flipflops (loads.Take bit) = IsBit width flipflops bit
IsLoad width flipflops other = Unit {0}

-- a source of D that names a field, or a flip-flop, names one that there is
abbrev pub IsFrom : ℕ → ℕ → DFrom → Type 0
IsFrom fields flipflops (sources.Field n) = n < fields
IsFrom fields flipflops (sources.Flip n) = n < flipflops
IsFrom fields flipflops other = Unit {0}

-- a mask of no more bits than the width
abbrev pub IsMask : ℕ → Option ℕ → Type 0
IsMask width None = Unit {0}
IsMask width (Some mask) = mask < 2 ^ width

-- a source of D, and its mask
pub record IsSource (width fields flipflops : ℕ) (source : DSource) : Type 0 where
  pub from : IsFrom fields flipflops source.from
  pub mask : IsMask width source.mask

-- a list from which a control chooses has 1 to 64 entries
pub record IsList {
    A : Type 0
    } (IsEntry : A → Type 0) (fields : List NamedField) (control : Control) (list : List A) : Type 0 where
  pub chooser : IsControl fields control
  pub some : 1 ≤ length list
  pub few : length list ≤ 64
  pub entries : All IsEntry list

-- the loads of a flip-flop, and the control that chooses from them
abbrev pub IsFlipFlop : BoardParts → FlipFlop → Type 0
IsFlipFlop p f = IsList (IsLoad p.width (length p.flipflop)) p.fields f.control f.load

-- the lists of the board, each with the control that chooses from it
pub record AreLists (p : BoardParts) : Type 0 where
  pub carry_in : IsList (IsBit p.width (length p.flipflop)) p.fields p.control.carry_in p.carry_in
  pub condition : IsList (IsBit p.width (length p.flipflop)) p.fields p.control.condition p.condition
  pub ram_link : IsList (IsBit p.width (length p.flipflop)) p.fields p.control.link p.ram_link
  pub q_link : IsList (IsBit p.width (length p.flipflop)) p.fields p.control.link p.q_link
  pub d : IsList (IsSource p.width (length p.fields) (length p.flipflop)) p.fields p.control.d p.d

-- the map sees at most 8 bits of the instruction register, and gives addresses of 12 bits
pub record IsMap (p : BoardParts) : Type 0 where
  pub most : p.map_bits ≤ 8
  pub within : p.map_low + p.map_bits ≤ p.width
  pub size : length p.map_entries ≡ map_size p.map_bits
  pub entries : All (λ entry. entry < 2 ^ 12) p.map_entries

-- what is so of every board
pub record IsBoard (p : BoardParts) : Type 0 where
  pub sizes : AreSizes p
  pub few_fields : length p.fields ≤ 64
  pub fields : All (IsField p.microword) p.fields
  pub few_flipflops : length p.flipflop ≤ 16
  pub flipflops : All (IsFlipFlop p) p.flipflop
  pub points : ArePoints p.fields p.control
  pub lists : AreLists p
  pub map : IsMap p
