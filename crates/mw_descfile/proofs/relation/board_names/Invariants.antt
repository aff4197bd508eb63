use Rattle.std.proofs.Common.{◌≡◌, map, take, ◌++◌}
use Rattle.std.specs.Prelude.{codes}
use Rattle.mw_board.specs.Elements.{Element, elements_of}
use Rattle.mw_descfile.proofs.relation.board_names.Given as goal

abbrev pub invariant-loop-number : goal.invariant-loop-number
invariant-loop-number l =
    l.names.items ≡ map (λ (e : Element). codes "b." ++ e.name) (take l.number (elements_of l.board))
