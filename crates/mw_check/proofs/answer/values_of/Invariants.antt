use Rattle.std.proofs.Common.{◌≡◌, ◌+◌, ◌++◌, drop}
use Rattle.mw_term.specs.Assigned.{given_by}
use Rattle.mw_check.specs.Equal.{values_from}
use Rattle.mw_check.proofs.answer.values_of.Given as goal

abbrev pub invariant-loop-i : goal.invariant-loop-i
invariant-loop-i l =
    l.values.items ++ values_from (l.i + 1) (drop l.i l.widths) (given_by l.given)
    ≡ values_from 1 l.widths (given_by l.given)
