-- The values of free elements.
use Rattle.std.proofs.Common.{◌≡◌, ℕ, zero, suc, ◌+◌, ◌<◌, List, [], ◌∷◌, ◌++◌, map, refl, ap, sym, ◌∙◌, arith}
use Rattle.std.specs.Prelude.{Bool, true, false, filter}
use Rattle.std.proofs.lemmas.List.{map-append}
use Rattle.std.proofs.lemmas.List.Elements.{filter-append}
use Rattle.mw_cycle.specs.Boundary.{numbers}
use Rattle.mw_rel.proofs.Completed.{numbers_more}

-- with one number more
pub free_step : (p : ℕ → Bool) (f : ℕ → ℕ) (n : ℕ) (values : List ℕ) → values ≡ map f (filter p (numbers 0 n))
    → values ++ map f (filter p (n ∷ [])) ≡ map f (filter p (numbers 0 (n + 1)))
free_step p f n values so_far =
    let more : n + 1 ≡ suc n = omega arith in
    let place : 0 + n ≡ n = omega arith in
    let all : numbers 0 (n + 1) ≡ numbers 0 n ++ n ∷ [] =
    ap (numbers 0) more ∙ numbers_more 0 n ∙ ap (λ k. numbers 0 n ++ k ∷ []) place in
    ap (λ xs. xs ++ map f (filter p (n ∷ []))) so_far
    ∙ sym (map-append f (filter p (numbers 0 n)) (filter p (n ∷ [])))
    ∙ ap (map f) (sym (filter-append p (numbers 0 n) (n ∷ [])) ∙ ap (filter p) (sym all))

free_by : (p : ℕ → Bool) (f g : ℕ → ℕ) (from : ℕ) (rest : List ℕ) (b : Bool) → p from ≡ b
    → (p from ≡ true → f from ≡ g from) → map f (filter p rest) ≡ map g (filter p rest)
    → map f (filter p (from ∷ rest)) ≡ map g (filter p (from ∷ rest))
free_by p f g from rest true is same others =
    rw is (ap (λ x. x ∷ map f (filter p rest)) (same is) ∙ ap (λ xs. g from ∷ xs) others)
free_by p f g from rest false is same others = rw is others

-- functions that agree on the free elements have the same values of them
pub free_same : (p : ℕ → Bool) (f g : ℕ → ℕ) (from n : ℕ)
    → ((e : ℕ) → e < from + n → p e ≡ true → f e ≡ g e)
    → map f (filter p (numbers from n)) ≡ map g (filter p (numbers from n))
free_same p f g from zero same = refl
free_same p f g from (suc n) same =
    free_by p f g from (numbers (from + 1) n) (p from) refl (same from (omega arith))
    (free_same p f g (from + 1) n (λ e below. same e (omega (arith, below))))
