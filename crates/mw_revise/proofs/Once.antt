-- Lists in which each item is the first with its key, and one more behind them.
use Rattle.std.proofs.Common.{◌≡◌, ℕ, zero, suc, List, [], ◌∷◌, ◌++◌, Bool, true, false, ◌||◌, ◌==◌, cond, find}
use Rattle.std.proofs.Common.{Option, Some, None, refl, sym, ap, ◌∙◌, subst, ◌⊎◌, inl, inr}
use Rattle.std.specs.Prelude.{slice_get}
use Rattle.std.specs.List.{list_any}
use Rattle.std.specs.Option.{option_or}
use Rattle.std.proofs.lemmas.Bool.{eq-eqb}
use Rattle.std.proofs.lemmas.List.Folds.{find-append}
use Rattle.mw_revise.specs.declared.keep.KeepLine.{KeepLine}
use Rattle.mw_revise.specs.Elements.{AreNamedOnce, element_in, is_named}

-- where no item passes, none is found
none_at : {X : Type 0} (here : Bool) (x : X) (found : Option X) (rest : Bool) → (here || rest) ≡ false
    → (rest ≡ false → found ≡ None) → cond here (Some x) found ≡ None
none_at true x found rest taken others = cc
none_at false x found rest taken others = others taken

none_found : {X : Type 0} (test : X → Bool) (items : List X) → list_any test items ≡ false → find test items ≡ None
none_found test [] taken = refl
none_found test (x ∷ others) taken =
    none_at (test x) x (find test others) (list_any test others) taken (none_found test others)

-- what stands among items and one more
before_or_last : {X : Type 0} (items : List X) (last : X) (n : ℕ) (item : X)
    → slice_get (items ++ last ∷ []) n ≡ Some item → (slice_get items n ≡ Some item) ⊎ (item ≡ last)
before_or_last [] last zero item at = inr (let same : item ≡ last = cc in same)
before_or_last [] last (suc n) item at = cc
before_or_last (x ∷ others) last zero item at = inl at
before_or_last (x ∷ others) last (suc n) item at = before_or_last others last n item at

-- each item is the first with its key
abbrev IsOnce : {X : Type 0} → (key : X → ℕ) → List X → Type 0
IsOnce {X} key items = (n : ℕ) (item : X) → slice_get items n ≡ Some item
    → find (λ (other : X). key other == key item) items ≡ Some item

-- so is one more, whose key none of them has
pub once_more : {X : Type 0} (key : X → ℕ) (items : List X) (last : X) → IsOnce key items
    → list_any (λ (other : X). key other == key last) items ≡ false → IsOnce key (items ++ last ∷ [])
once_more {X} key items last once free n item at =
    let with_key : ℕ → X → Bool = λ k other. key other == k in
    let parts : (k : ℕ) → find (with_key k) (items ++ last ∷ [])
    ≡ option_or (find (with_key k) items) (find (with_key k) (last ∷ [])) =
    λ k. find-append (with_key k) items (last ∷ []) in
    elim (before_or_last items last n item at) [
      | inl before ↦ parts (key item) ∙ ap (λ found. option_or found (find (with_key (key item)) (last ∷ [])))
          (once n item before)
      | inr same ↦ subst (λ (x : X). find (with_key (key x)) (items ++ last ∷ []) ≡ Some x) (sym same)
          (parts (key last) ∙ ap (λ found. option_or found (find (with_key (key last)) (last ∷ [])))
          (none_found (with_key (key last)) items free)
          ∙ ap (λ passes. cond passes (Some last) None) (eq-eqb (key last) (key last) refl))
    ]

-- lines are so with one more, about an element that has none
pub named_more : (lines : List KeepLine) (last : KeepLine) → AreNamedOnce lines
    → is_named lines (element_in last) ≡ false → AreNamedOnce (lines ++ last ∷ [])
unfolding AreNamedOnce
named_more lines last once free = once_more element_in lines last once free

-- before the first line
pub none_named : AreNamedOnce []
unfolding AreNamedOnce
none_named n line at = cc
