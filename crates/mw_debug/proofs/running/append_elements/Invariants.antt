use Rattle.std.proofs.Common.{◌≡◌, ◌++◌, take}
use Rattle.std.specs.List.{flat_map}
use Rattle.mw_debug.specs.Trace.{element_text}
use Rattle.mw_debug.proofs.running.append_elements.Given as goal

abbrev pub invariant-loop-number : goal.invariant-loop-number
invariant-loop-number l =
    l.text.items ≡ l.fn.text.items ++ flat_map (element_text l.board l.state) (take l.number-index l.numbers)
