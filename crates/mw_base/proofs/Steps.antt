-- Steps over a list, one at a time. `at` says which element a step is for: `next` and `next_or` of `Lists` give it.
use Rattle.std.proofs.Common.{◌≡◌, ℕ, ◌+◌, ◌≤◌, List, [], ◌∷◌, Result, Ok, Err, refl, sym, ◌∙◌, subst, drop, length}
use Rattle.std.proofs.lemmas.List.{drop_all}
use Rattle.mw_base.specs.declared.refusal.Refused.{Refused}
use Rattle.mw_base.specs.declared.refusal.Refused.TheVariants.{At, NoMemory}
use Rattle.mw_base.specs.Reading.{Fails}
use Rattle.mw_base.specs.Steps.{steps}
use Rattle.mw_base.proofs.Results.{ok_is, bind_ok}

-- a step that did not fail
pub goes_on : {A B F : Type 0} (step : B → A → Result B F) (before after : B) (xs : List A) (n : ℕ) (x : A)
    (total : Result B F)
    → drop n xs ≡ x ∷ drop (n + 1) xs → step before x ≡ Ok after → steps step before (drop n xs) ≡ total
    → steps step after (drop (n + 1) xs) ≡ total
unfolding steps
goes_on step before after xs n x total at is so_far =
    let one : steps step before (drop n xs) ≡ steps step after (drop (n + 1) xs) = rw (at, is) refl in
    sym one ∙ so_far

-- a step with a fault
pub fails : {A B F : Type 0} (step : B → A → Result B F) (before : B) (fault : F) (xs : List A) (n : ℕ) (x : A)
    (total : Result B F)
    → drop n xs ≡ x ∷ drop (n + 1) xs → step before x ≡ Err fault → steps step before (drop n xs) ≡ total
    → total ≡ Err fault
unfolding steps
fails step before fault xs n x total at is so_far =
    let one : steps step before (drop n xs) ≡ Err fault = rw (at, is) refl in
    sym so_far ∙ one

-- a step that was refused
pub refused : {A B F : Type 0} (step : B → A → Result B F) (before : B) (refusal : Refused F) (xs : List A) (n : ℕ)
    (x : A) (total : Result B F)
    → drop n xs ≡ x ∷ drop (n + 1) xs → Fails refusal (step before x) → steps step before (drop n xs) ≡ total
    → Fails refusal total
refused step before NoMemory xs n x total at is so_far = tt
refused step before (At fault) xs n x total at is so_far = fails step before fault xs n x total at is so_far

-- no step more
pub done : {A B F : Type 0} (step : B → A → Result B F) (before : B) (xs : List A) (n : ℕ) (total : Result B F)
    → length xs ≤ n → steps step before (drop n xs) ≡ total → total ≡ Ok before
unfolding steps
done step before xs n total past so_far =
    let one : steps step before (drop n xs) ≡ Ok before = rw (drop_all n xs past) refl in
    sym so_far ∙ one

-- what each step keeps
pub steps_keep : {A B F : Type 0} (P : B → Type 0) (step : B → A → Result B F)
    → ((before after : B) (x : A) → step before x ≡ Ok after → P before → P after)
    → (before end : B) (xs : List A) → steps step before xs ≡ Ok end → P before → P end
unfolding steps
steps_keep {F = F} P step keeps before end [] is so = subst P (ok_is {F = F} before end is) so
steps_keep P step keeps before end (x ∷ rest) is so =
    let one = bind_ok (step before x) (λ after. steps step after rest) end is in
    steps_keep P step keeps one.0 end rest one.2 (keeps before one.0 x one.1 so)
