use Rattle.std.proofs.Common.{◌≡◌, map, take}
use Rattle.mw_macro.specs.Statements.{act_of as act_seen}
use Rattle.mw_cases.specs.Described.{act_of}
use Rattle.mw_cases.proofs.described.doing_all.Given as goal

abbrev pub invariant-loop-operation : goal.invariant-loop-operation
invariant-loop-operation l = map act_seen l.statements.items ≡ map act_of (take l.operation-index l.operations)
