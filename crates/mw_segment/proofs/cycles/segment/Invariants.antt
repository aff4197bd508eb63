use Rattle.std.proofs.Common.{◌≡◌, ◌+◌, ◌-◌, ◌<◌, ◌≤◌, length}
use Rattle.std.specs.Prelude.{None}
use Rattle.mw_segment.specs.Segments.{IsRunKind, IsRunning}
use Rattle.mw_segment.proofs.Going.{StaysAlong, StaysOnSegment}
use Rattle.mw_segment.proofs.cycles.segment.Given as goal
use Rattle.mw_symboard.specs.Turns.{other_side, reads_to_come}
use Rattle.mw_symmem.specs.Memory.{writes_of}
use Rattle.mw_symmem.specs.Workspace.{GoesOn}

abbrev pub invariant-loop-kind : goal.invariant-loop-kind
invariant-loop-kind l = record {
  running : IsRunning l.program l.space l.board;
  idle : l.board.asked ≡ None;
  below : l.board.place.cycle < l.bound;
  goes : GoesOn (IsRunKind l.fn.board.place) l.fn.space.terms l.space.terms l.fn.space.words l.space.words
      l.fn.space.memory l.space.memory;
  line : l.board.place.cycle ≡ l.fn.board.place.cycle → l.board.place.line ≡ l.fn.board.place.line;
  side : l.board.place.side ≡ l.fn.board.place.side;
  other : writes_of l.space.memory (other_side l.fn.board.place.side)
      ≡ writes_of l.fn.space.memory (other_side l.fn.board.place.side);
  later : l.fn.board.place.cycle ≤ l.board.place.cycle;
  reads : length l.space.memory.reads + reads_to_come l.board
      ≤ length l.fn.space.memory.reads + reads_to_come l.fn.board
      + (l.board.place.cycle - l.fn.board.place.cycle);
  on_path : StaysOnSegment l.program l.fn.space l.space l.fn.board l.board;
  along : StaysAlong l.program l.bound l.fn.space l.space l.fn.board l.board;
}

abbrev pub decreases-loop-kind : goal.decreases-loop-kind
decreases-loop-kind l = l.bound - l.board.place.cycle
