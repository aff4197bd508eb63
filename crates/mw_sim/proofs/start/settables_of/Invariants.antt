use Rattle.std.proofs.Common.{◌≡◌, map, take}
use Rattle.mw_board.specs.Elements.{elements_of}
use Rattle.mw_sim.specs.Start.{settable}
use Rattle.mw_sim.proofs.start.settables_of.Given as goal

abbrev pub invariant-loop-number : goal.invariant-loop-number
invariant-loop-number l = l.elements.items ≡ map settable (take l.number (elements_of l.board))
