use Rattle.std.proofs.Common.{◌≡◌, ◌++◌, take}
use Rattle.std.specs.List.{flat_map}
use Rattle.mw_recheck.specs.LogPrinted.{number_text}
use Rattle.mw_recheck.proofs.print.append_numbers.Given as goal

abbrev pub invariant-loop-value : goal.invariant-loop-value
invariant-loop-value l = l.text.items ≡ l.fn.text.items ++ flat_map number_text (take l.value-index l.values)
