use Rattle.std.proofs.Common.{◌≡◌, map, take}
use Rattle.mw_board.specs.Elements.{elements_of}
use Rattle.mw_rel.proofs.job.widths_of.Given as goal

abbrev pub invariant-loop-number : goal.invariant-loop-number
invariant-loop-number l = l.widths.items ≡ take l.number (map (λ e. e.width) (elements_of l.board))
