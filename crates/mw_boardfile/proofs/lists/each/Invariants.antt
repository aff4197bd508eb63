use Rattle.std.proofs.Common.{◌≡◌, ◌≤◌, length, Result, drop}
use Rattle.std.specs.Prelude.{All}
use Rattle.toml.specs.Data.{Data}
use Rattle.mw_base.specs.declared.cause.Cause.{Cause}
use Rattle.mw_board.specs.Rules.{Verdict}
use Rattle.mw_boardfile.specs.Kept.{Kept, Keeps}
use Rattle.mw_boardfile.specs.Lists.{each_of}
use Rattle.mw_boardfile.specs.Views.{Reads, data_of}
use Rattle.mw_base.specs.Reading.{with_front}
use Rattle.mw_boardfile.proofs.lists.each.Given as goal

abbrev pub invariant-loop-n : goal.invariant-loop-n
invariant-loop-n g l =
    goal.F-IsAlwaysCallable g l.read
    × ((reader : Data → Result g.row.T.Denot Cause) → Reads (goal.F-post g l.read) reader
    → with_front l.done.items (each_of reader l.n (data_of (drop l.n l.values))) ≡ each_of reader 0 (data_of l.values))
    × (length l.done.items ≡ l.n)
    × (l.n ≤ length l.values)
    × ((rule : g.row.T.Denot → Verdict) → Keeps (goal.F-post g l.read) rule → All (λ x. Kept (rule x)) l.done.items)
