-- A microword, decoded: what it has at each control point of a board (Mick and Brick).
use Rattle.std.specs.Prelude.{ℕ, ◌<◌, ◌^◌, length, None}
use Rattle.mw_base.specs.Words.{join}
use Rattle.mw_board.specs.declared.bit.Bit.TheVariants as bits
use Rattle.mw_board.specs.declared.bit.DFrom.TheVariants as sources
use Rattle.mw_board.specs.declared.bit.DSource.{DSource}
use Rattle.mw_board.specs.declared.parts.BoardParts.{BoardParts}
use Rattle.mw_board.specs.Valid.{IsBit, IsSource}
use Rattle.mw_cycle.specs.declared.microword.Microword.{Microword}
use Rattle.mw_cycle.specs.Control.{value_at, is_on, chosen}

-- the Am2901's nine bits: the source from bit 0 on, the function from bit 3, the destination from bit 6
abbrev pub instruction_of : BoardParts → ℕ → ℕ
instruction_of board word =
    join 6 (value_at board.fields word board.control.alu_destination)
    (join 3 (value_at board.fields word board.control.alu_function)
    (value_at board.fields word board.control.alu_source))

-- D is 0
abbrev pub no_source : DSource
no_source = record { from = sources.Zero; mask = None }

-- what the microword has at each control point
unfoldable pub points_of : BoardParts → ℕ → Microword
points_of board word = record {
  word = word;
  instruction = instruction_of board word;
  a_address = value_at board.fields word board.control.a_address;
  b_address = value_at board.fields word board.control.b_address;
  carry_in = chosen bits.Zero board.carry_in (value_at board.fields word board.control.carry_in);
  d = chosen no_source board.d (value_at board.fields word board.control.d);
  condition = chosen bits.Zero board.condition (value_at board.fields word board.control.condition);
  polarity = is_on board.fields word board.control.polarity;
  test_disable = is_on board.fields word board.control.test_disable;
  sequencer = value_at board.fields word board.control.sequencer;
  branch = value_at board.fields word board.control.branch;
  ci = is_on board.fields word board.control.ci;
  rld = is_on board.fields word board.control.rld;
  ram_link = chosen bits.Zero board.ram_link (value_at board.fields word board.control.link);
  q_link = chosen bits.Zero board.q_link (value_at board.fields word board.control.link);
  mar_load = is_on board.fields word board.control.mar_load;
  ir_load = is_on board.fields word board.control.ir_load;
  memory_write = is_on board.fields word board.control.memory_write;
  out = is_on board.fields word board.control.out;
}

-- each point is in its range, and what it chooses is there
pub record IsMicroword (board : BoardParts) (m : Microword) : Type 0 where
  pub instruction : m.instruction < 512
  pub a_address : m.a_address < 16
  pub b_address : m.b_address < 16
  pub carry_in : IsBit board.width (length board.flipflop) m.carry_in
  pub d : IsSource board.width (length board.fields) (length board.flipflop) m.d
  pub condition : IsBit board.width (length board.flipflop) m.condition
  pub sequencer : m.sequencer < 16
  pub branch : m.branch < 2 ^ 12
  pub ram_link : IsBit board.width (length board.flipflop) m.ram_link
  pub q_link : IsBit board.width (length board.flipflop) m.q_link
