use Rattle.std.proofs.Common.{◌+◌, ◌-◌, length}
use Rattle.mw_cycle.specs.Environment.{values_of}
use Rattle.mw_space.proofs.Placing.{HasFilled}
use Rattle.mw_space.proofs.outside.put.Given as goal

abbrev pub invariant-loop-env : goal.invariant-loop-env
invariant-loop-env l = record { filled : HasFilled l.series l.at l.fn.env l.env }

abbrev pub decreases-loop-env : goal.decreases-loop-env
decreases-loop-env l = l.at + 1 - length (values_of l.env l.series)
