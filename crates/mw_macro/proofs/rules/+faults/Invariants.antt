use Rattle.std.proofs.Common.{◌≡◌, drop}
use Rattle.mw_macro.specs.Rules.{have_fault}
use Rattle.mw_macro.specs.Statements.{acts}
use Rattle.mw_macro.proofs.rules.+faults.Given as goal

abbrev pub invariant-have_fault-loop-statement : goal.invariant-have_fault-loop-statement
invariant-have_fault-loop-statement l =
    have_fault l.fault l.shape l.levels (acts (drop l.statement-index l.statements))
    ≡ have_fault l.fault l.shape l.levels (acts l.statements)
