use Rattle.std.proofs.Common.{◌≡◌, ◌++◌, take, true}
use Rattle.std.specs.List.{flat_map}
use Rattle.mw_recheck.specs.LogPrinted.{line_text, are_narrow}
use Rattle.mw_recheck.proofs.print.append_lines.Given as goal

abbrev pub invariant-loop-line : goal.invariant-loop-line
invariant-loop-line l =
    (l.text.items ≡ l.fn.text.items ++ flat_map line_text (take l.line-index l.lines))
    × (are_narrow (take l.line-index l.lines) ≡ true)
