use Rattle.std.proofs.Common.{◌≡◌, drop}
use Rattle.mw_board.specs.Check.{each_from, point_check}
use Rattle.mw_board.proofs.check.check_each_point.Given as goal

abbrev pub invariant-loop-n : goal.invariant-loop-n
invariant-loop-n l =
    each_from (point_check l.fields l.control) l.n (drop l.n l.points)
    ≡ each_from (point_check l.fields l.control) 0 l.points
