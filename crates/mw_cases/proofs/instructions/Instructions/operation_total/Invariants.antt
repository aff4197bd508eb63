use Rattle.std.proofs.Common.{◌≡◌}
use Rattle.mw_cases.specs.Operations.{operations_before}
use Rattle.mw_cases.proofs.instructions.Instructions.operation_total.Given as goal

abbrev pub invariant-loop-operations : goal.invariant-loop-operations
invariant-loop-operations l = l.total ≡ operations_before l.self.number l.operations-index
