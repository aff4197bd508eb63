-- Names of elements, with one more among them.
use Rattle.std.proofs.Common.{◌≡◌, ℕ, List, [], ◌∷◌, ◌++◌, length, Bool, true, false, refl, sym, subst, cond, IsSome}
use Rattle.std.proofs.Common.{inl, inr}
use Rattle.std.specs.Prelude.{Option, Some, None, not, nat_le, is_some, bytes_eq}
use Rattle.std.specs.List.{All, list_all, list_any}
use Rattle.std.proofs.lemmas.Bool.{and_parts, and_from, or_parts, or_from, cases_Bool}
use Rattle.std.proofs.lemmas.List.Elements.{All-nil, All-cons, All-head, All-tail}
use Rattle.std.proofs.lemmas.Slice.Eq.{bytes_eq-Decides}
use Rattle.mw_base.specs.Named.{with_name}
use Rattle.mw_base.specs.Names.{is_spelled_as_name}
use Rattle.mw_macro.specs.Rules.{is_reserved, are_free}
use Rattle.mw_descfile.specs.declared.element.Element.{Element}
use Rattle.mw_descfile.specs.Kept.{AreNames}

-- ---- tests of lists

all_between : {A : Type 0} (test : A → Bool) (xs ys : List A) (x : A) → test x ≡ true
    → list_all test (xs ++ ys) ≡ true → list_all test (xs ++ x ∷ ys) ≡ true
all_between test [] ys x is all = and_from (test x) (list_all test ys) is all
all_between test (y ∷ xs) ys x is all =
    let parts = and_parts (test y) (list_all test (xs ++ ys)) all in
    and_from (test y) (list_all test (xs ++ x ∷ ys)) parts.0 (all_between test xs ys x is parts.1)

pub all_both : {A : Type 0} (test : A → Bool) (xs ys : List A) → list_all test xs ≡ true → list_all test ys ≡ true
    → list_all test (xs ++ ys) ≡ true
all_both test [] ys one other = other
all_both test (x ∷ xs) ys one other =
    let parts = and_parts (test x) (list_all test xs) one in
    and_from (test x) (list_all test (xs ++ ys)) parts.0 (all_both test xs ys parts.1 other)

pub all_more : {A : Type 0} (test : A → Bool) (xs : List A) (x : A) → list_all test xs ≡ true → test x ≡ true
    → list_all test (xs ++ x ∷ []) ≡ true
all_more test xs x all is = all_both test xs (x ∷ []) all (and_from (test x) true is refl)

none_between : {A : Type 0} (test : A → Bool) (xs ys : List A) (x : A) → test x ≡ false
    → list_any test (xs ++ ys) ≡ false → list_any test (xs ++ x ∷ ys) ≡ false
none_between test [] ys x is none = or_from (test x) (list_any test ys) is none
none_between test (y ∷ xs) ys x is none =
    let parts = or_parts (test y) (list_any test (xs ++ ys)) none in
    or_from (test y) (list_any test (xs ++ x ∷ ys)) parts.0 (none_between test xs ys x is parts.1)

-- ---- a name that stands for nothing

pub none_taken : {A : Type 0} (x : Option A) → is_some x ≡ false → x ≡ None
none_taken None is = refl
none_taken (Some x) is = absurd cc

-- it is none of those that stand for something
pub other_has : (names : List ℕ → Option Element) (n x : List ℕ) → names n ≡ None → IsSome (names x) → n ≡ x → ⊥
other_has names n x none some same =
    let was : is_some (names n) ≡ true = subst (λ y. is_some (names y) ≡ true) (sym same) some in
    let e : false ≡ true = rw none at was in
    absurd cc

differs : (n x : List ℕ) → (n ≡ x → ⊥) → bytes_eq n x ≡ false
differs n x differ = elim (cases_Bool (bytes_eq n x)) [
  | inl same ↦ absurd (differ ((bytes_eq-Decides n x).0 same))
  | inr apart ↦ apart
]

not_there : (names : List ℕ → Option Element) (n : List ℕ) (xs : List (List ℕ)) → names n ≡ None
    → All (λ x. IsSome (names x)) xs → list_any (bytes_eq n) xs ≡ false
not_there names n [] none all = refl
not_there names n (x ∷ xs) none all =
    or_from (bytes_eq n x) (list_any (bytes_eq n) xs)
    (differs n x (other_has names n x none (All-head (λ x. IsSome (names x)) x xs all)))
    (not_there names n xs none (All-tail (λ x. IsSome (names x)) x xs all))

turned : (b : Bool) → b ≡ false → not b ≡ true
turned true is = absurd cc
turned false is = refl

unturned : (b : Bool) → not b ≡ true → b ≡ false
unturned true is = absurd cc
unturned false is = refl

free_between : (names : List ℕ → Option Element) (xs ys : List (List ℕ)) (n : List ℕ) → names n ≡ None
    → All (λ x. IsSome (names x)) (xs ++ ys)
    → is_reserved n ≡ false → are_free (xs ++ ys) ≡ true → are_free (xs ++ n ∷ ys) ≡ true
free_between names [] ys n none all reserved free =
    and_from (not (is_reserved n)) _ (turned (is_reserved n) reserved)
    (and_from (not (list_any (bytes_eq n) ys)) (are_free ys)
    (turned (list_any (bytes_eq n) ys) (not_there names n ys none all)) free)
free_between names (x ∷ xs) ys n none all reserved free =
    let first = and_parts (not (is_reserved x)) _ free in
    let second = and_parts (not (list_any (bytes_eq x) (xs ++ ys))) (are_free (xs ++ ys)) first.1 in
    let some = All-head (λ x. IsSome (names x)) x (xs ++ ys) all in
    let apart = differs x n (λ same. other_has names n x none some (sym same)) in
    let none_x = none_between (bytes_eq x) xs ys n apart (unturned (list_any (bytes_eq x) (xs ++ ys)) second.0) in
    and_from (not (is_reserved x)) _ first.0
    (and_from (not (list_any (bytes_eq x) (xs ++ n ∷ ys))) (are_free (xs ++ n ∷ ys))
    (turned (list_any (bytes_eq x) (xs ++ n ∷ ys)) none_x)
    (free_between names xs ys n none (All-tail (λ x. IsSome (names x)) x (xs ++ ys) all) reserved second.1))

-- a new name among others
pub names_between : (names : List ℕ → Option Element) (xs ys : List (List ℕ)) (n : List ℕ) → names n ≡ None
    → All (λ x. IsSome (names x)) (xs ++ ys)
    → is_reserved n ≡ false → is_spelled_as_name n ≡ true → nat_le (length n) 64 ≡ true → AreNames (xs ++ ys)
    → AreNames (xs ++ n ∷ ys)
names_between names xs ys n none all reserved spelled short kept = record {
  spelled = all_between is_spelled_as_name xs ys n spelled kept.spelled;
  free = free_between names xs ys n none all reserved kept.free;
  short = all_between (λ (name : List ℕ). nat_le (length name) 64) xs ys n short kept.short;
}

-- ---- what names stand for

all_insert : {A : Type 0} (P : A → Type 0) (xs ys : List A) (x : A) → P x → All P (xs ++ ys) → All P (xs ++ x ∷ ys)
all_insert P [] ys x is all = All-cons P x ys is all
all_insert P (y ∷ xs) ys x is all =
    All-cons P y (xs ++ x ∷ ys) (All-head P y (xs ++ ys) all) (all_insert P xs ys x is (All-tail P y (xs ++ ys) all))

all_still : {A : Type 0} (P Q : A → Type 0) → ((x : A) → P x → Q x) → (xs : List A) → All P xs → All Q xs
all_still P Q so [] all = All-nil Q
all_still P Q so (x ∷ xs) all = All-cons Q x xs (so x (All-head P x xs all)) (all_still P Q so xs (All-tail P x xs all))

-- each of some names stands for something, also after one has got a meaning
pub has_more : (names : List ℕ → Option Element) (xs ys : List (List ℕ)) (n : List ℕ) (meant : Element)
    → All (λ x. IsSome (names x)) (xs ++ ys)
    → All (λ x. IsSome (with_name names n meant x)) (xs ++ n ∷ ys)
has_more names xs ys n meant all =
    let P = λ (x : List ℕ). IsSome (with_name names n meant x) in
    let still = λ (x : List ℕ) (some : IsSome (names x)). elim (bytes_eq n x) as
    (λ b. IsSome (cond b (Some meant) (names x))) [ true ↦ refl | false ↦ some ] in
    let same : bytes_eq n n ≡ true = (bytes_eq-Decides n n).1 refl in
    let own : P n = rw same refl in
    all_insert P xs ys n own (all_still (λ x. IsSome (names x)) P still (xs ++ ys) all)
