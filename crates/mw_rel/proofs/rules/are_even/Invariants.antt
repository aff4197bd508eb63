use Rattle.std.proofs.Common.{◌≡◌, drop}
use Rattle.std.specs.List.{list_all}
use Rattle.mw_rel.specs.Rules.{is_even}
use Rattle.mw_rel.specs.Seen.{lines_of}
use Rattle.mw_rel.proofs.rules.are_even.Given as goal

abbrev pub invariant-loop-line : goal.invariant-loop-line
invariant-loop-line l =
    list_all (is_even l.shape) (lines_of (drop l.line-index l.lines)) ≡ list_all (is_even l.shape) (lines_of l.lines)
