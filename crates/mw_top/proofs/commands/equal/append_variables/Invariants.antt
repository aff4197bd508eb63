use Rattle.std.proofs.Common.{◌≡◌, ◌++◌}
use Rattle.std.specs.List.{flat_map, range_with_len}
use Rattle.mw_top.specs.Commands.Equal.{variable_line}
use Rattle.mw_top.proofs.commands.equal.append_variables.Given as goal

abbrev pub invariant-loop-number : goal.invariant-loop-number
invariant-loop-number l =
    l.report.items ≡ l.fn.report.items ++ flat_map (variable_line l.names l.values) (range_with_len 0 l.number)
