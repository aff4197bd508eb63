use Rattle.std.proofs.Common.{◌≡◌, Result, drop}
use Rattle.mw_base.specs.declared.cause.Cause.{Cause}
use Rattle.mw_boardfile.specs.Lists.{none_refused}
use Rattle.mw_boardfile.specs.Views.{Reads, data_of}
use Rattle.toml.specs.Data.{Data}
use Rattle.mw_boardfile.proofs.lists.none_refused.Given as goal

abbrev pub invariant-loop-n : goal.invariant-loop-n
invariant-loop-n g l =
    goal.F-IsAlwaysCallable g l.read
    × ((reader : Data → Result g.row.T.Denot Cause) → Reads (goal.F-post g l.read) reader
    → none_refused reader l.cause l.n (data_of (drop l.n l.values)) ≡ none_refused reader l.cause 0 (data_of l.values))
