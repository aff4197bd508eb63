-- What holds of each plan.
use Rattle.std.specs.Prelude.{◌≡◌, List, ℕ, Some}
use Rattle.mw_outside.specs.Views.{ShelfView}
use Rattle.mw_plan.specs.Plan.{Plan, IsOver, after}
use Rattle.mw_plan.specs.Shelf.{AreTold}
use Rattle.mw_plan.specs.Files.{FilesRead, IsLeft}

-- Where contents that a shelf tells and contents that were read of the same files each bring a plan to an end, it is
-- the same end.
abbrev pub EndsOnce : {F A : Type 0} → Plan F A → ShelfView → Type 0
EndsOnce {F} {A} plan shelf = (files : FilesRead) (told : List (List ℕ)) (one other : Plan F A)
    → AreTold shelf files.names told → after plan told ≡ Some one → IsOver one
    → IsLeft plan shelf files other → IsOver other → one ≡ other
