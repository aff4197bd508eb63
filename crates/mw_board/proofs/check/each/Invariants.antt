use Rattle.std.proofs.Common.{◌≡◌, drop}
use Rattle.mw_board.specs.Rules.{Verdict}
use Rattle.mw_board.specs.Check.{each_from}
use Rattle.mw_board.specs.Following.{Follows, place_of}
use Rattle.mw_board.proofs.check.each.Given as goal

abbrev pub invariant-loop-n : goal.invariant-loop-n
invariant-loop-n g l =
    goal.F-IsAlwaysCallable g l.rule
    × ((test : g.row.T.Denot → Verdict) → Follows (goal.F-post g l.rule) test
    → each_from (λ n entry. place_of l.list n (test entry)) l.n (drop l.n l.entries)
    ≡ each_from (λ n entry. place_of l.list n (test entry)) 0 l.entries)
