-- Comparisons, one after another, with some of them left.
use Rattle.std.specs.Prelude.{ℕ, Option, Result}
use Rattle.mw_rel.specs.ComparisonWords.{Compared}
use Rattle.mw_term.specs.Assigned.{Numbers}
use Rattle.mw_term.specs.Functions.{Function}
use Rattle.mw_space.specs.declared.space.Space.{Space}
use Rattle.mw_decide.specs.Faults.{RunStop}
use Rattle.mw_compare.specs.Comparing.{Compares}

-- none showed a difference up to those that are left: what is said of these, from this space on, is so of all
abbrev pub CameTo : (nodes : ℕ) → (old now : Space) → (path other : Function) → (all left : Compared → Compared)
    → Type 0
CameTo nodes old now path other all left =
    (new : Space) (result : Result (Option Numbers) RunStop) → Compares nodes now new other left result
    → Compares nodes old new path all result
