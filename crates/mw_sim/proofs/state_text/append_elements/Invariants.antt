use Rattle.std.proofs.Common.{◌≡◌, ◌++◌}
use Rattle.std.specs.List.{flat_map, range_with_len}
use Rattle.mw_sim.specs.StateText.{element_line}
use Rattle.mw_sim.proofs.state_text.append_elements.Given as goal

abbrev pub invariant-loop-number : goal.invariant-loop-number
invariant-loop-number l =
    l.report.items ≡ l.fn.report.items ++ flat_map (element_line l.board l.state) (range_with_len 0 l.number)
