use Rattle.std.proofs.Common.{◌≡◌, ◌++◌, length}
use Rattle.mw_top.specs.PrefixText.{cycle_by_cycle, cycles_text}
use Rattle.mw_top.proofs.Cycles.{pieces}
use Rattle.mw_top.proofs.prefix_text.append_cycles.Given as goal

abbrev pub invariant-loop-rest : goal.invariant-loop-rest
invariant-loop-rest l =
    l.report.items ++ pieces l.space (cycle_by_cycle l.rest) ≡ l.fn.report.items ++ cycles_text l.bits

abbrev pub decreases-loop-rest : goal.decreases-loop-rest
decreases-loop-rest l = length l.rest
