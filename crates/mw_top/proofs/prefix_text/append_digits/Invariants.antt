use Rattle.std.proofs.Common.{◌≡◌, ◌++◌, map, take}
use Rattle.mw_top.specs.PrefixText.{digit}
use Rattle.mw_top.proofs.prefix_text.append_digits.Given as goal

abbrev pub invariant-loop-bit : goal.invariant-loop-bit
invariant-loop-bit l = l.report.items ≡ l.fn.report.items ++ map digit (take l.bit-index l.bits)
