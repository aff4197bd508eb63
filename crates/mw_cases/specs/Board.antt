-- The board of every generated job.
use Rattle.std.specs.Prelude.{ℕ, ◌+◌, ◌*◌, List, [], ◌∷◌, codes, map, None}
use Rattle.std.specs.List.{range_with_len}
use Rattle.mw_board.specs.declared.bit.Bit.TheVariants as bits
use Rattle.mw_board.specs.declared.bit.DFrom.{DFrom}
use Rattle.mw_board.specs.declared.bit.DFrom.TheVariants as sources
use Rattle.mw_board.specs.declared.bit.DSource.{DSource}
use Rattle.mw_board.specs.declared.control.Control.TheVariants.{Field, Fixed}
use Rattle.mw_board.specs.declared.control.Points.{Points}
use Rattle.mw_board.specs.declared.field.NamedField.{NamedField}
use Rattle.mw_board.specs.declared.parts.BoardParts.{BoardParts}
use Rattle.mw_board.specs.Examples.{field}

-- the fields, in byte order of their names
unfoldable pub generated_fields : List NamedField
generated_fields =
    field (codes "a") 9 4
    ∷ field (codes "b") 13 4
    ∷ field (codes "br") 22 12
    ∷ field (codes "cin") 17 1
    ∷ field (codes "d") 35 1
    ∷ field (codes "dst") 6 3
    ∷ field (codes "fun") 3 3
    ∷ field (codes "ir") 37 1
    ∷ field (codes "mar") 36 1
    ∷ field (codes "off") 34 1
    ∷ field (codes "seq") 18 4
    ∷ field (codes "src") 0 3
    ∷ []

-- the control points: these fields, by their numbers in that order; the others are 0, and the carry into PC 1
abbrev pub generated_points : Points
generated_points = record {
  alu_source = Field 11;
  alu_function = Field 6;
  alu_destination = Field 5;
  a_address = Field 0;
  b_address = Field 1;
  sequencer = Field 10;
  branch = Field 2;
  test_disable = Field 9;
  polarity = Fixed 0;
  ci = Fixed 1;
  rld = Fixed 0;
  mar_load = Field 8;
  ir_load = Field 7;
  memory_write = Fixed 0;
  out = Fixed 0;
  carry_in = Field 3;
  d = Field 4;
  condition = Fixed 0;
  link = Fixed 0;
}

-- the address of the first word of instruction i, which has room for four
abbrev pub first_address : ℕ → ℕ
first_address i = 16 + 4 * i

-- what the map gives for each high byte of the instruction register
unfoldable pub generated_map : List ℕ
generated_map = map first_address (range_with_len 0 256)

-- a source of D without a mask
abbrev pub unmasked : DFrom → DSource
unmasked from = record { from = from; mask = None }

-- Registers of 16 bits, a memory of 256 such words, and no flip-flops. The carry in is 0 or 1, D is 0 or the memory,
-- and the condition and the links are 0. The map sees the high eight bits of the instruction register.
unfoldable pub generated_board : BoardParts
generated_board = record {
  width = 16;
  microword = 38;
  address = 8;
  fill = 0;
  unset = 0;
  vector = 0;
  stack = 5;
  fields = generated_fields;
  flipflop = [];
  control = generated_points;
  carry_in = bits.Zero ∷ bits.One ∷ [];
  condition = bits.Zero ∷ [];
  ram_link = bits.Zero ∷ [];
  q_link = bits.Zero ∷ [];
  d = unmasked sources.Zero ∷ unmasked sources.Memory ∷ [];
  map_low = 8;
  map_bits = 8;
  map_entries = generated_map;
}
