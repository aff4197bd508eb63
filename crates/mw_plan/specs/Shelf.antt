-- Contents of the files on a shelf.
use Rattle.std.specs.Prelude.{◌≡◌, ℕ, List, [], ◌∷◌, Some, IfSome}
use Rattle.mw_outside.specs.Views.{ShelfView}

-- contents that were read of the first so many files, in order: where the shelf tells any of a file, they are these
abbrev pub AreRead : ShelfView → List (List ℕ) → List (List ℕ) → Type 0
AreRead shelf names [] = Unit {0}
AreRead shelf (name ∷ names) (bytes ∷ contents) =
    IfSome (shelf.told name) (λ whole. bytes ≡ whole) × AreRead shelf names contents
AreRead shelf [] (bytes ∷ contents) = ⊥

-- the shelf tells these contents of the first so many files, in order
abbrev pub AreTold : ShelfView → List (List ℕ) → List (List ℕ) → Type 0
AreTold shelf names [] = Unit {0}
AreTold shelf (name ∷ names) (bytes ∷ contents) = (shelf.told name ≡ Some bytes) × AreTold shelf names contents
AreTold shelf [] (bytes ∷ contents) = ⊥
