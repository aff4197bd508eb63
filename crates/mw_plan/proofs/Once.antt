-- Contents that are told and contents that were read bring a plan to one end.
use Rattle.std.proofs.Common.{◌≡◌, ℕ, List, [], ◌∷◌, ◌++◌, Some, ◌⊎◌, inl, inr, refl, sym, ap₂}
use Rattle.mw_outside.specs.Views.{ShelfView}
use Rattle.mw_plan.specs.Laws.{EndsOnce}
use Rattle.mw_plan.specs.Plan.{Plan, after}
use Rattle.mw_plan.specs.Shelf.{AreRead, AreTold}
use Rattle.mw_plan.proofs.Plans.{over_once}

-- the first list is the second, cut short or not
IsBegun : List (List ℕ) → List (List ℕ) → Type 0
IsBegun front whole = (rest : List (List ℕ)) × (whole ≡ front ++ rest)

longer : (first second : List ℕ) (front whole : List (List ℕ)) → first ≡ second → IsBegun front whole
    → IsBegun (first ∷ front) (second ∷ whole)
unfolding IsBegun
longer first second front whole same begun =
    (begun.0, ap₂ (λ (x : List ℕ) (xs : List (List ℕ)). x ∷ xs) (sym same) begun.1)

-- of contents that are told and contents that were read of the same files the ones begin the others
one_begins : (shelf : ShelfView) (names told read : List (List ℕ)) → AreTold shelf names told
    → AreRead shelf names read → IsBegun told read ⊎ IsBegun read told
unfolding IsBegun
one_begins shelf names [] read are_told are_read = inl (read, refl)
one_begins shelf names (bytes ∷ told) [] are_told are_read = inr (bytes ∷ told, refl)
one_begins shelf [] (bytes ∷ told) (other ∷ read) are_told are_read = absurd are_told
one_begins shelf (name ∷ names) (bytes ∷ told) (other ∷ read) are_told are_read =
    let first : other ≡ bytes = rw are_told.0 at are_read.0 in
    elim (one_begins shelf names told read are_told.1 are_read.1) [
      | inl begun ↦ inl (longer bytes other told read (sym first) begun)
      | inr begun ↦ inr (longer other bytes read told first begun)
    ]

-- what a plan is left with after files, said of the same files
at_files : {F A : Type 0} (plan left : Plan F A) (files others : List (List ℕ)) → others ≡ files
    → after plan others ≡ Some left → after plan files ≡ Some left
at_files plan left files others same is = rw same at is

pub ends_once : {F A : Type 0} (plan : Plan F A) (shelf : ShelfView) → EndsOnce plan shelf
unfolding IsBegun
ends_once plan shelf = λ files told one other are_told one_is one_over left other_over.
    elim (one_begins shelf files.names told files.contents are_told left.read) [
      | inl begun ↦ over_once plan one other told begun.0 one_over one_is
          (at_files plan other _ files.contents begun.1 left.left_is)
      | inr begun ↦ sym (over_once plan other one files.contents begun.0 other_over left.left_is
          (at_files plan one _ told begun.1 one_is))
    ]
