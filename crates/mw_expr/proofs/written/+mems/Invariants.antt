use Rattle.std.proofs.Common.{◌≡◌, ◌++◌, map, drop}
use Rattle.mw_expr.specs.Mems.{mems_in}
use Rattle.mw_expr.specs.Placed.{placed, parts_of}
use Rattle.mw_expr.proofs.written.+mems.Given as goal

abbrev pub invariant-push_mems_in-loop-part : goal.invariant-push_mems_in-loop-part
invariant-push_mems_in-loop-part l =
    l.tokens.items ++ mems_in (parts_of (map placed (drop l.part-index l.parts)))
    ≡ l.initial.tokens.items ++ mems_in (parts_of (map placed l.parts))
