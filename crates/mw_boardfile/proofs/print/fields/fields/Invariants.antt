use Rattle.std.proofs.Common.{◌≡◌, ◌≤◌, length, drop}
use Rattle.toml.specs.View.{table_view}
use Rattle.mw_boardfile.specs.Printed.{fields_printed}
use Rattle.mw_boardfile.proofs.print.fields.fields.Given as goal

abbrev pub invariant-loop-n : goal.invariant-loop-n
invariant-loop-n l =
    (l.n ≤ length l.fields) × (table_view l.table ≡ fields_printed (drop l.n l.fields))

abbrev pub decreases-loop-n : goal.decreases-loop-n
decreases-loop-n l = l.n
