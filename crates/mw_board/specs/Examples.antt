-- A small board, as values on which the definitions compute.
use Rattle.std.specs.Prelude.{ℕ, List, [], ◌∷◌, codes, None}
use Rattle.mw_board.specs.declared.bit.Bit.TheVariants as bits
use Rattle.mw_board.specs.declared.bit.DFrom.TheVariants as sources
use Rattle.mw_board.specs.declared.control.Control.TheVariants.{Field, Fixed}
use Rattle.mw_board.specs.declared.control.Points.{Points}
use Rattle.mw_board.specs.declared.field.NamedField.{NamedField}
use Rattle.mw_board.specs.declared.parts.BoardParts.{BoardParts}

-- a field of the microword: its name, its lowest bit, and how many bits it has
abbrev pub field : List ℕ → ℕ → ℕ → NamedField
field name low width = record { name = name; field = record { low = low; width = width } }

-- the fields of the small board, in byte order of their names
unfoldable pub small_fields : List NamedField
small_fields =
    field (codes "a") 9 4
    ∷ field (codes "b") 13 4
    ∷ field (codes "br") 22 12
    ∷ field (codes "cin") 17 1
    ∷ field (codes "dst") 6 3
    ∷ field (codes "fun") 3 3
    ∷ field (codes "off") 34 1
    ∷ field (codes "seq") 18 4
    ∷ field (codes "src") 0 3
    ∷ []

-- its control points: these fields, by their numbers in that order; where there is none the point is 0, and the carry
-- into PC 1
unfoldable pub small_points : Points
small_points = record {
  alu_source = Field 8;
  alu_function = Field 5;
  alu_destination = Field 4;
  a_address = Field 0;
  b_address = Field 1;
  sequencer = Field 7;
  branch = Field 2;
  test_disable = Field 6;
  polarity = Fixed 0;
  ci = Fixed 1;
  rld = Fixed 0;
  mar_load = Fixed 0;
  ir_load = Fixed 0;
  memory_write = Fixed 0;
  out = Fixed 0;
  carry_in = Field 3;
  d = Fixed 0;
  condition = Fixed 0;
  link = Fixed 0;
}

-- the small board: words of 4 bits, 16 memory words and no flip-flops; the carry in is 0 or 1, and D, the condition and
-- the links are 0
unfoldable pub small_board : BoardParts
small_board = record {
  width = 4;
  microword = 36;
  address = 4;
  fill = 0;
  unset = 0;
  vector = 0;
  stack = 5;
  fields = small_fields;
  flipflop = [];
  control = small_points;
  carry_in = bits.Zero ∷ bits.One ∷ [];
  condition = bits.Zero ∷ [];
  ram_link = bits.Zero ∷ [];
  q_link = bits.Zero ∷ [];
  d = record { from = sources.Zero; mask = None } ∷ [];
  map_low = 0;
  map_bits = 0;
  map_entries = [];
}
