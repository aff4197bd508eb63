use Rattle.std.proofs.Common.{◌≡◌, Bool, drop}
use Rattle.mw_boardfile.specs.Lists.{first_place}
use Rattle.mw_boardfile.specs.Views.{Tests}
use Rattle.mw_boardfile.proofs.lists.first_place.Given as goal

abbrev pub invariant-loop-n : goal.invariant-loop-n
invariant-loop-n g l =
    goal.F-IsAlwaysCallable g l.test
    × ((p : g.row.T.Denot → Bool)
    → Tests (goal.F-post g l.test) p → first_place p l.n (drop l.n l.items) ≡ first_place p 0 l.items)
