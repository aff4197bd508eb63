use Rattle.std.proofs.Common.{◌≡◌, drop, nat_le}
use Rattle.std.specs.List.{list_any}
use Rattle.mw_rel.specs.Seen.{lines_of}
use Rattle.mw_top.proofs.commands.certify.is_left_from.Given as goal

abbrev pub invariant-loop-line : goal.invariant-loop-line
invariant-loop-line l =
    list_any (λ line. nat_le l.number line.left) (lines_of (drop l.line-index l.lines))
    ≡ list_any (λ line. nat_le l.number line.left) (lines_of l.lines)
