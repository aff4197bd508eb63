use Rattle.std.proofs.Common.{◌≡◌, map}
use Rattle.std.specs.List.{range_with_len}
use Rattle.mw_cases.specs.Board.{first_address}
use Rattle.mw_cases.proofs.board.map_entries.Given as goal

abbrev pub invariant-loop-instruction : goal.invariant-loop-instruction
invariant-loop-instruction l = l.entries.items ≡ map first_address (range_with_len 0 l.instruction)
