use Rattle.std.proofs.Common.{◌≡◌, take, true}
use Rattle.std.specs.List.{flat_map, list_all}
use Rattle.mw_recheck.specs.LogPrinted.{boundary_text, are_narrow}
use Rattle.mw_recheck.proofs.print.print_log.Given as goal

abbrev pub invariant-loop-lines : goal.invariant-loop-lines
invariant-loop-lines l =
    (l.text.items ≡ flat_map boundary_text (take l.lines-index l.log))
    × (list_all are_narrow (take l.lines-index l.log) ≡ true)
