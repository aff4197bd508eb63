use Rattle.std.proofs.Common.{◌≡◌, ◌≤◌, map, length, drop}
use Rattle.toml.specs.View.{table_view}
use Rattle.mw_boardfile.specs.Printed.{point_printed}
use Rattle.mw_boardfile.specs.Tables.{table_of}
use Rattle.mw_boardfile.proofs.print.points.points.Given as goal

abbrev pub invariant-loop-n : goal.invariant-loop-n
invariant-loop-n l =
    (l.n ≤ length l.points)
    × (table_view l.table ≡ table_of (map (point_printed l.fields l.drivers) (drop l.n l.points)))

abbrev pub decreases-loop-n : goal.decreases-loop-n
decreases-loop-n l = l.n
