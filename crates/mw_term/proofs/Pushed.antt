-- Lists with one item more.
use Rattle.std.proofs.Common.{◌≡◌, ◌⊎◌, inl, inr, ℕ, zero, suc, ◌+◌, ◌<◌, List, [], ◌∷◌, ◌++◌, length, refl, ap, arith}
use Rattle.std.proofs.Common.{◌∙◌}
use Rattle.std.specs.Prelude.{Bool, true, false, ◌==◌, Option, Some, None, slice_get, unwrap_or, if◌then◌else◌}
use Rattle.std.proofs.lemmas.Option.{same_Some}
use Rattle.mw_term.specs.declared.word.Word.{Word}
use Rattle.mw_term.specs.WordList.{number_from}

-- what a place of a list with one more has: an item of the list, or that one
pub pushed : {X : Type 0} (xs : List X) (x : X) (i : ℕ) (found : X) → slice_get (xs ++ x ∷ []) i ≡ Some found
    → ((i < length xs) × (slice_get xs i ≡ Some found)) ⊎ ((i ≡ length xs) × (x ≡ found))
pushed [] x zero found is = inr (refl, same_Some x found is)
pushed [] x (suc i) found is = absurd cc
pushed (y ∷ xs) x zero found is = inl (omega arith, is)
pushed (y ∷ xs) x (suc i) found is = elim (pushed xs x i found is) [
  | inl h ↦ inl (omega (arith, h.0), h.1)
  | inr h ↦ inr (omega (arith, h.0), h.1)
]

-- an item of the list is where it was
pub behind : {X : Type 0} (xs ys : List X) (i : ℕ) (found : X) → slice_get xs i ≡ Some found
    → slice_get (xs ++ ys) i ≡ Some found
behind [] ys i found is = absurd cc
behind (y ∷ xs) ys zero found is = is
behind (y ∷ xs) ys (suc i) found is = behind xs ys i found is

-- and the next one is there
pub pushed_there : {X : Type 0} (xs : List X) (x : X) → slice_get (xs ++ x ∷ []) (length xs) ≡ Some x
pushed_there [] x = refl
pushed_there (y ∷ xs) x = pushed_there xs x

-- ---- numbers

number_head : (b own : Bool) (k n : ℕ) (found : Option ℕ)
    → (if b then Some k else (if own then Some (unwrap_or found n) else found))
    ≡ (if own then Some (unwrap_or (if b then Some k else found) n) else (if b then Some k else found))
number_head true true k n found = refl
number_head true false k n found = refl
number_head false own k n found = refl

pub number_push : (k : ℕ) (words : List Word) (w : Word) (term : ℕ)
    → number_from k (words ++ w ∷ []) term
    ≡ (if w.term == term then Some (unwrap_or (number_from k words term) (k + length words))
    else number_from k words term)
number_push k [] w term = ap (λ n. if w.term == term then Some n else None) (omega arith)
number_push k (x ∷ words) w term =
    ap (λ found. if x.term == term then Some k else found)
    (number_push (k + 1) words w term
    ∙ ap (λ n.
    if w.term == term then Some (unwrap_or (number_from (k + 1) words term) n) else number_from (k + 1) words term)
    (omega arith))
    ∙ number_head (x.term == term) (w.term == term) k (k + length (x ∷ words)) (number_from (k + 1) words term)
