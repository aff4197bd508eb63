use Rattle.std.proofs.Common.{◌≡◌, drop}
use Rattle.mw_board.specs.Check.{each_from, field_check}
use Rattle.mw_board.proofs.check.check_each_field.Given as goal

abbrev pub invariant-loop-n : goal.invariant-loop-n
invariant-loop-n l =
    each_from (field_check l.microword) l.n (drop l.n l.fields) ≡ each_from (field_check l.microword) 0 l.fields
