use Rattle.std.proofs.Common.{◌≡◌, ◌-◌, drop}
use Rattle.mw_macro.specs.Counts.{total}
use Rattle.mw_macro.specs.Statements.{acts}
use Rattle.mw_macro.proofs.counts.+counts.Given as goal

abbrev pub invariant-left_after-loop-statement : goal.invariant-left_after-loop-statement
invariant-left_after-loop-statement l =
    l.rest - total l.what (acts (drop l.statement-index l.statements)) ≡ l.budget - total l.what (acts l.statements)
