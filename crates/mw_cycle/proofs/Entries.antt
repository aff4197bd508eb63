-- Lists without the entries whose numbers pass a test.
use Rattle.std.proofs.Common.{◌≡◌, ℕ, zero, suc, ◌+◌, ◌<◌, List, [], ◌∷◌, Bool, true, false, cond, refl, sym, ap}
use Rattle.std.proofs.Common.{ap₂, ◌∙◌, add-zero, arith, drop}
use Rattle.std.specs.Prelude.{slice_index, slice_index_or}
use Rattle.mw_cycle.specs.Thinned.{without_from}

-- how many of so many numbers, from n on, fail a test
abbrev pub left : (ℕ → Bool) → ℕ → ℕ → ℕ
left test n zero = 0
left test n (suc count) = cond (test n) (left test (n + 1) count) (suc (left test (n + 1) count))

-- one more is left, where the last number fails the test
with_last : (first last : Bool) (count : ℕ)
    → cond first (cond last count (suc count)) (suc (cond last count (suc count)))
    ≡ cond last (cond first count (suc count)) (suc (cond first count (suc count)))
with_last true last count = refl
with_last false true count = refl
with_last false false count = refl

-- of one number more
pub left_more : (test : ℕ → Bool) (n count : ℕ)
    → left test n (suc count) ≡ cond (test (n + count)) (left test n count) (suc (left test n count))
left_more test n zero = rw (add-zero n) refl
left_more test n (suc count) =
    let place : n + 1 + count ≡ n + suc count = omega arith in
    ap (λ rest. cond (test n) rest (suc rest)) (left_more test (n + 1) count ∙ rw place refl)
    ∙ with_last (test n) (test (n + suc count)) (left test (n + 1) count)

-- what follows an entry that is left, or not
entry_behind : {A : Type 0} (first : Bool) (x : A) (rest xs : List A) (count at : ℕ) (other : A)
    → slice_index_or rest count other ≡ slice_index_or xs at other
    → slice_index_or (cond first rest (x ∷ rest)) (cond first count (suc count)) other ≡ slice_index_or xs at other
entry_behind true x rest xs count at other same = same
entry_behind false x rest xs count at other same = same

-- an entry that fails the test stands behind what is left of those before it
pub entry_left : {A : Type 0} (test : ℕ → Bool) (n : ℕ) (xs : List A) (at : ℕ) (other : A) → test (n + at) ≡ false
    → slice_index_or (without_from test n xs) (left test n at) other ≡ slice_index_or xs at other
entry_left test n [] at other fails = refl
entry_left test n (x ∷ xs) zero other fails =
    let first : test n ≡ false = ap test (sym (add-zero n)) ∙ fails in
    rw first refl
entry_left test n (x ∷ xs) (suc at) other fails =
    let place : n + 1 + at ≡ n + suc at = omega arith in
    entry_behind (test n) x (without_from test (n + 1) xs) xs (left test (n + 1) at) at other
    (entry_left test (n + 1) xs at other (ap test place ∙ fails))

-- where no number passes, each entry is left
pub all_left : {A : Type 0} (test : ℕ → Bool) (n : ℕ) (xs : List A) → ((i : ℕ) → test i ≡ false)
    → without_from test n xs ≡ xs
all_left test n [] none = refl
all_left test n (x ∷ xs) none = rw (none n) (ap (λ rest. x ∷ rest) (all_left test (n + 1) xs none))

-- what is left behind an entry is left of the entries behind it
nothing_behind : {A : Type 0} (test : ℕ → Bool) (n at count : ℕ)
    → drop {A = A} count [] ≡ without_from test n (drop at [])
nothing_behind test n zero zero = refl
nothing_behind test n zero (suc count) = refl
nothing_behind test n (suc at) zero = refl
nothing_behind test n (suc at) (suc count) = refl

behind : {A : Type 0} (first : Bool) (x : A) (rest : List A) (count : ℕ)
    → drop (cond first count (suc count)) (cond first rest (x ∷ rest)) ≡ drop count rest
behind true x rest count = refl
behind false x rest count = refl

pub left_behind : {A : Type 0} (test : ℕ → Bool) (n : ℕ) (xs : List A) (at : ℕ)
    → drop (left test n at) (without_from test n xs) ≡ without_from test (n + at) (drop at xs)
left_behind test n [] at = nothing_behind test (n + at) at (left test n at)
left_behind test n (x ∷ xs) zero = rw (add-zero n) refl
left_behind test n (x ∷ xs) (suc at) =
    let place : n + 1 + at ≡ n + suc at = omega arith in
    behind (test n) x (without_from test (n + 1) xs) (left test (n + 1) at)
    ∙ left_behind test (n + 1) xs at
    ∙ ap (λ from. without_from test from (drop at xs)) place

-- tests that agree from two numbers on leave the same entries
pub left_alike : {A : Type 0} (one other : ℕ → Bool) (n m : ℕ) (xs : List A) → ((i : ℕ) → one (n + i) ≡ other (m + i))
    → without_from one n xs ≡ without_from other m xs
left_alike one other n m [] same = refl
left_alike one other n m (x ∷ xs) same =
    let here : one n ≡ other m = ap one (sym (add-zero n)) ∙ same 0 ∙ ap other (add-zero m) in
    let rest = left_alike one other (n + 1) (m + 1) xs (λ i.
    let before : n + 1 + i ≡ n + (i + 1) = omega arith in
    let after : m + (i + 1) ≡ m + 1 + i = omega arith in
    ap one before ∙ same (i + 1) ∙ ap other after) in
    ap₂ (λ first others. cond first others (x ∷ others)) here rest

-- ---- bounds

-- what is put before numbers below a bound, or not, leaves them below it
below_behind : (first : Bool) (x : ℕ) (rest : List ℕ) (bound : ℕ) → x < bound
    → ((i : ℕ) → slice_index rest i < bound) → (i : ℕ) → slice_index (cond first rest (x ∷ rest)) i < bound
below_behind true x rest bound here each i = each i
below_behind false x rest bound here each zero = here
below_behind false x rest bound here each (suc i) = each i

-- what is left of numbers below a bound is below it
pub left_below : (test : ℕ → Bool) (n : ℕ) (xs : List ℕ) (bound : ℕ) → ((i : ℕ) → slice_index xs i < bound)
    → (i : ℕ) → slice_index (without_from test n xs) i < bound
left_below test n [] bound each i = each i
left_below test n (x ∷ xs) bound each i =
    below_behind (test n) x (without_from test (n + 1) xs) bound (each 0)
    (left_below test (n + 1) xs bound (λ j. each (suc j))) i
