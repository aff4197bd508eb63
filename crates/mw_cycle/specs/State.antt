-- The state of a board, and when it fits one.
use Rattle.std.specs.Prelude.{◌≡◌, ℕ, ◌<◌, ◌^◌, List, length, replicate, slice_index, Bool, nat_lt, ◌==◌, ◌&&◌}
use Rattle.std.specs.List.{list_all}
use Rattle.mw_seq.specs.Sequencer.{Sequencer, IsSequencer, cleared_sequencer}
use Rattle.mw_board.specs.declared.parts.BoardParts.{BoardParts}
use Rattle.mw_board.specs.Depth.{depth_of}

-- the control address in the pipeline register, the Am2901's registers and Q, the memory address register, the
-- instruction register, the flip-flops (flip-flop n is bit n), the sequencer, and the memory image
pub record BoardState : Type 0 where
  pub at : ℕ
  pub regs : List ℕ
  pub q : ℕ
  pub mar : ℕ
  pub ir : ℕ
  pub flips : ℕ
  pub seq : Sequencer
  pub memory : List ℕ

-- each part is in range, the sequencer's depth is the board's, and the memory has each of its words
pub record Fits (board : BoardParts) (s : BoardState) : Type 0 where
  pub at : s.at < 2 ^ 12
  pub sixteen : length s.regs ≡ 16
  pub regs : (i : ℕ) → slice_index s.regs i < 2 ^ board.width
  pub q : s.q < 2 ^ board.width
  pub mar : s.mar < 2 ^ board.address
  pub ir : s.ir < 2 ^ board.width
  pub flips : s.flips < 2 ^ length board.flipflop
  pub seq : IsSequencer (depth_of board) s.seq
  pub size : length s.memory ≡ 2 ^ board.address
  pub memory : (i : ℕ) → slice_index s.memory i < 2 ^ board.width

-- each word has the board's width
unfoldable pub are_words : BoardParts → BoardState → Bool
are_words board s =
    list_all (λ word. nat_lt word (2 ^ board.width)) s.regs
    && nat_lt s.q (2 ^ board.width)
    && nat_lt s.ir (2 ^ board.width)
    && list_all (λ word. nat_lt word (2 ^ board.width)) s.memory

-- the addresses and the flip-flops are in range, and the memory and the stack have each of their words
unfoldable pub is_sized : BoardParts → BoardState → Bool
is_sized board s =
    nat_lt s.at (2 ^ 12)
    && nat_lt s.mar (2 ^ board.address)
    && nat_lt s.flips (2 ^ length board.flipflop)
    && (length s.memory == 2 ^ board.address)
    && (length s.seq.stack == depth_of board)

-- everything is 0
unfoldable pub cleared : BoardParts → BoardState
cleared board = record {
  at = 0;
  regs = replicate 16 0;
  q = 0;
  mar = 0;
  ir = 0;
  flips = 0;
  seq = cleared_sequencer (depth_of board);
  memory = replicate (2 ^ board.address) 0;
}
