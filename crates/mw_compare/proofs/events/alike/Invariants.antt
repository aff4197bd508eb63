use Rattle.std.proofs.Common.{◌≡◌, drop, length}
use Rattle.mw_rel.specs.ComparisonWords.{are_alike}
use Rattle.mw_compare.proofs.events.alike.Given as goal

abbrev pub invariant-loop-number : goal.invariant-loop-number
invariant-loop-number l = record {
  count : length l.board ≡ length l.machine;
  left : are_alike l.board l.machine ≡ are_alike (drop l.number l.board) (drop l.number l.machine);
}
