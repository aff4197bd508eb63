use Rattle.std.proofs.Common.{◌≡◌, drop}
use Rattle.mw_board.specs.Points.{default_points}
use Rattle.mw_board.specs.Rules.{DriversKeep}
use Rattle.mw_boardfile.specs.Control.{each_point}
use Rattle.mw_boardfile.specs.Views.{members}
use Rattle.mw_boardfile.proofs.points.each_point.Given as goal

abbrev pub invariant-loop-point : goal.invariant-loop-point
invariant-loop-point l =
    (each_point l.fields (members l.table) l.drivers (drop l.point-index l.points)
    ≡ each_point l.fields (members l.table) default_points l.points)
    × DriversKeep l.fields l.drivers
