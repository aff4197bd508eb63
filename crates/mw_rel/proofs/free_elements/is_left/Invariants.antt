use Rattle.std.proofs.Common.{◌≡◌, drop, ◌==◌}
use Rattle.std.specs.List.{list_any}
use Rattle.mw_rel.specs.Seen.{lines_of}
use Rattle.mw_rel.proofs.free_elements.is_left.Given as goal

abbrev pub invariant-loop-line : goal.invariant-loop-line
invariant-loop-line l =
    list_any (λ line. line.left == l.element) (lines_of (drop l.line-index l.lines)) ≡ list_any
    (λ line. line.left == l.element) (lines_of l.lines)
