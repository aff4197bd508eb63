use Rattle.std.proofs.Common.{◌≡◌, map, take}
use Rattle.toml.specs.Data.{Data}
use Rattle.toml.specs.View.{view}
use Rattle.mw_boardfile.specs.Views.{Prints}
use Rattle.mw_boardfile.proofs.print.values.each.Given as goal

abbrev pub invariant-loop-item : goal.invariant-loop-item
invariant-loop-item g l =
    goal.F-IsAlwaysCallable g l.print
    × ((printed : g.row.T.Denot → Data) → Prints (goal.F-post g l.print) printed
    → map view l.values.items ≡ map printed (take l.item-index l.items))
