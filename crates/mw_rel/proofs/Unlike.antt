-- Where no difference is shown, what is compared is the same.
use Rattle.std.proofs.Common.{◌≡◌, ℕ, ◌+◌, List, [], ◌∷◌, Bool, true, false, not, ◌==◌, cond, Option, Some, None, find}
use Rattle.std.proofs.Common.{option_map, refl, ap, ap₂}
use Rattle.std.specs.Prelude.{if◌then◌else◌}
use Rattle.std.specs.List.{All}
use Rattle.std.proofs.lemmas.Bool.{eqb-true, eq-eqb}
use Rattle.std.proofs.lemmas.List.Elements.{All-nil, All-cons, All-head, All-tail}
use Rattle.mw_base.specs.declared.event.Event.{Event}
use Rattle.mw_base.specs.declared.event.Event.TheVariants.{Out, Taken}
use Rattle.mw_rel.specs.declared.difference.Difference.{Difference}
use Rattle.mw_rel.specs.declared.difference.Difference.TheVariants as differences
use Rattle.mw_rel.specs.Differs.{same_event, unlike_from, first_of}

-- what is there twice is one
pub one_some : {A : Type 0} (a b : A) → Some a ≡ Some b → a ≡ b
one_some a b same = cc

-- what can't be there isn't
pub never_some : {A : Type 0} (there : Option A) → ((a : A) → ¬ (there ≡ Some a)) → there ≡ None
never_some None never = refl
never_some (Some a) never = absurd (never a refl)

-- two lists that are unlike nowhere
alike : {A : Type 0} (test : Bool) (n : ℕ) (x y : A) (xs ys : List A) (rest : Option ℕ) → (test ≡ true → x ≡ y)
    → (rest ≡ None → xs ≡ ys)
    → (if test then rest else Some n) ≡ None → x ∷ xs ≡ y ∷ ys
alike true n x y xs ys rest one others none = ap₂ (λ a rest. a ∷ rest) (one refl) (others none)
alike false n x y xs ys rest one others none = cc

pub same_lists : {A : Type 0} (same : A → A → Bool) → ((x y : A) → same x y ≡ true → x ≡ y) → (n : ℕ) (xs ys : List A)
    → unlike_from same n xs ys ≡ None → xs ≡ ys
same_lists same sound n [] [] none = refl
same_lists same sound n [] (y ∷ ys) none = cc
same_lists same sound n (x ∷ xs) [] none = cc
same_lists same sound n (x ∷ xs) (y ∷ ys) none =
    alike (same x y) n x y xs ys (unlike_from same (n + 1) xs ys) (sound x y) (same_lists same sound (n + 1) xs ys) none

-- a list and itself
pub never_unlike : {A : Type 0} (same : A → A → Bool) → ((x : A) → same x x ≡ true) → (n : ℕ) (xs : List A)
    → unlike_from same n xs xs ≡ None
never_unlike same itself n [] = refl
never_unlike same itself n (x ∷ xs) = rw (itself x) (never_unlike same itself (n + 1) xs)

-- one event
pub event_is : (x y : Event) → same_event x y ≡ true → x ≡ y
event_is (Out a) (Out b) same = ap Out (eqb-true a b same)
event_is (Taken a) (Taken b) same = ap Taken (eqb-true a b same)
event_is (Out a) (Taken b) same = cc
event_is (Taken a) (Out b) same = cc

pub event_itself : (x : Event) → same_event x x ≡ true
event_itself (Out a) = eq-eqb a a refl
event_itself (Taken a) = eq-eqb a a refl

pub number_itself : (x : ℕ) → (x == x) ≡ true
number_itself x = eq-eqb x x refl

-- what nothing was made of
pub nothing_made : {A B : Type 0} (f : A → B) (there : Option A) → option_map f there ≡ None → there ≡ None
nothing_made f None none = refl
nothing_made f (Some x) none = cc

-- the first of some differences isn't there
pub first_none : (here : Option Difference) (others : List (Option Difference)) → first_of (here ∷ others) ≡ None
    → (here ≡ None) × (first_of others ≡ None)
first_none None others none = (refl, none)
first_none (Some difference) others none = cc

-- the stack pointer is the number
pub pointer_is : (test : Bool) (a b : ℕ) → (a == b) ≡ test
    → (if test then None else Some differences.StackPointer) ≡ None → a ≡ b
pointer_is true a b is none = eqb-true a b is
pointer_is false a b is none = cc

-- where none fails, each passes
one_passes : {A : Type 0} (P : A → Type 0) (test : Bool) (x : A) (rest : Option A) → (test ≡ true → P x)
    → cond (not test) (Some x) rest ≡ None → P x × (rest ≡ None)
one_passes P true x rest holds none = (holds refl, none)
one_passes P false x rest holds none = cc

pub none_fails : {A : Type 0} (test : A → Bool) (P : A → Type 0) → ((x : A) → test x ≡ true → P x) → (xs : List A)
    → find (λ x. not (test x)) xs ≡ None → All P xs
none_fails test P sound [] none = All-nil P
none_fails test P sound (x ∷ xs) none =
    let here = one_passes P (test x) x (find (λ x. not (test x)) xs) (sound x) none in
    All-cons P x xs here.0 (none_fails test P sound xs here.1)

pub all_pass : {A : Type 0} (test : A → Bool) (P : A → Type 0) → ((x : A) → P x → test x ≡ true) → (xs : List A)
    → All P xs → find (λ x. not (test x)) xs ≡ None
all_pass test P complete [] all = refl
all_pass test P complete (x ∷ xs) all =
    rw (complete x (All-head P x xs all)) (all_pass test P complete xs (All-tail P x xs all))
