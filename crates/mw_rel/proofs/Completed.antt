-- The pair in relation that free values and a memory give.
use Rattle.std.proofs.Common.{◌≡◌, ℕ, zero, suc, ◌+◌, ◌-◌, ◌<◌, ◌≤◌, List, [], ◌∷◌, ◌++◌, map, take, length, Bool, true}
use Rattle.std.proofs.Common.{false, not, ◌==◌, refl, sym, ap, ap₂, ◌∙◌, subst, arith, inl, inr, length-append}
use Rattle.std.specs.Prelude.{All, filter, cond, slice_index, slice_index_or}
use Rattle.std.specs.List.{list_all, list_any}
use Rattle.std.proofs.lemmas.Bool.{and_parts, or_parts, cases_lt, eq-eqb}
use Rattle.std.proofs.lemmas.List.{take_more, append-nil, map-append}
use Rattle.std.proofs.lemmas.List.Elements.{All-nil, All-cons, filter-append}
use Rattle.std.proofs.lemmas.List.Sums.{AllPass-from_list_all}
use Rattle.mw_cycle.specs.Boundary.{numbers}
use Rattle.mw_expr.specs.declared.shape.Shape.{Shape}
use Rattle.mw_expr.specs.Values.{value}
use Rattle.mw_rel.specs.Completed.{HoldsIn, free_before, value_by}
use Rattle.mw_rel.specs.Lines.{Line}
use Rattle.mw_rel.specs.Rules.{are_once, reads_no_left, IsLineOf}
use Rattle.mw_rel.proofs.Decided.{same_value, no_left}
use Rattle.mw_rel.proofs.Relations.{neither, turned}

-- ---- how many elements are free before one

pub numbers_more : (from n : ℕ) → numbers from (suc n) ≡ numbers from n ++ (from + n) ∷ []
numbers_more from zero = ap (λ k. k ∷ []) (omega arith)
numbers_more from (suc n) =
    let place : from + 1 + n ≡ from + suc n = omega arith in
    ap (λ ns. from ∷ ns) (numbers_more (from + 1) n ∙ ap (λ k. numbers (from + 1) n ++ k ∷ []) place)

one_passes : (p : ℕ → Bool) (n : ℕ) (b : Bool) → p n ≡ b → filter p (n ∷ []) ≡ cond b (n ∷ []) []
one_passes p n b is = rw is refl

pub free_more : (p : ℕ → Bool) (n : ℕ) (b : Bool) → p n ≡ b
    → filter p (numbers 0 (n + 1)) ≡ filter p (numbers 0 n) ++ cond b (n ∷ []) []
free_more p n b is =
    let more : n + 1 ≡ suc n = omega arith in
    let place : 0 + n ≡ n = omega arith in
    ap (λ k. filter p (numbers 0 k)) more
    ∙ ap (filter p) (numbers_more 0 n ∙ ap (λ k. numbers 0 n ++ k ∷ []) place)
    ∙ filter-append p (numbers 0 n) (n ∷ []) ∙ ap (λ xs. filter p (numbers 0 n) ++ xs) (one_passes p n b is)

pub before_free : (p : ℕ → Bool) (n : ℕ) → p n ≡ true → free_before p (n + 1) ≡ free_before p n + 1
before_free p n is = ap length (free_more p n true is) ∙ length-append (filter p (numbers 0 n)) (n ∷ [])

pub before_left : (p : ℕ → Bool) (n : ℕ) → p n ≡ false → free_before p (n + 1) ≡ free_before p n
before_left p n is = omega (arith, ap length (free_more p n false is), length-append (filter p (numbers 0 n)) [])

step_up : (p : ℕ → Bool) (n : ℕ) (b : Bool) → p n ≡ b → free_before p n ≤ free_before p (n + 1)
step_up p n true is = omega (arith, before_free p n is)
step_up p n false is = omega (arith, before_left p n is)

pub before_grows : (p : ℕ → Bool) (n more : ℕ) → free_before p n ≤ free_before p (n + more)
before_grows p n zero = let same : n + 0 ≡ n = omega arith in rw same (omega arith)
before_grows p n (suc more) =
    let same : n + more + 1 ≡ n + suc more = omega arith in
    subst (λ k. free_before p n ≤ free_before p k) same
    (omega (arith, before_grows p n more, step_up p (n + more) (p (n + more)) refl))

-- a free element has a place among the free ones
pub place_within : (p : ℕ → Bool) (n most : ℕ) → p n ≡ true → n < most → free_before p n < free_before p most
place_within p n most is below =
    let rest = most - (n + 1) in
    let same : n + 1 + rest ≡ most = omega arith in
    omega
    (arith, before_free p n is, subst (λ k. free_before p (n + 1) ≤ free_before p k) same (before_grows p (n + 1) rest))

-- up to a free element there are no more than in all
pub up_to : (p : ℕ → Bool) (n most : ℕ) → n < most → free_before p (n + 1) ≤ free_before p most
up_to p n most below =
    let rest = most - (n + 1) in
    let same : n + 1 + rest ≡ most = omega arith in
    subst (λ k. free_before p (n + 1) ≤ free_before p k) same (before_grows p (n + 1) rest)

one_more : (p : ℕ → Bool) (n : ℕ) (b : Bool) → p n ≡ b → free_before p (n + 1) ≤ free_before p n + 1
one_more p n true is = omega (arith, before_free p n is)
one_more p n false is = omega (arith, before_left p n is)

-- and no more than elements
pub before_few : (p : ℕ → Bool) (n : ℕ) → free_before p n ≤ n
before_few p zero = omega arith
before_few p (suc n) =
    let same : n + 1 ≡ suc n = omega arith in
    subst (λ k. free_before p k ≤ k) same (omega (arith, one_more p n (p n) refl, before_few p n))

-- ---- the values of the free elements are the given ones

given_more : (p : ℕ → Bool) (f : ℕ → ℕ) (given : List ℕ) (n : ℕ) (b : Bool) → p n ≡ b
    → (b ≡ true → f n ≡ slice_index given (free_before p n)) → free_before p (n + 1) ≤ length given
    → map f (filter p (numbers 0 n)) ≡ take (free_before p n) given
    → map f (filter p (numbers 0 (n + 1))) ≡ take (free_before p (n + 1)) given
given_more p f given n true is here within before =
    ap (map f) (free_more p n true is) ∙ map-append f (filter p (numbers 0 n)) (n ∷ [])
    ∙ ap₂ (λ xs y. xs ++ y ∷ []) before (here refl)
    ∙ sym (take_more given (free_before p n) 0 (omega (arith, before_free p n is)))
    ∙ ap (λ k. take k given) (sym (before_free p n is))
given_more p f given n false is here within before =
    ap (map f) (free_more p n false is) ∙ map-append f (filter p (numbers 0 n)) []
    ∙ ap (λ xs. xs ++ []) before ∙ append-nil (take (free_before p n) given)
    ∙ ap (λ k. take k given) (sym (before_left p n is))

pub given_values : (p : ℕ → Bool) (f : ℕ → ℕ) (given : List ℕ) (n : ℕ)
    → ((e : ℕ) → e < n → p e ≡ true → f e ≡ slice_index given (free_before p e)) → free_before p n ≤ length given
    → map f (filter p (numbers 0 n)) ≡ take (free_before p n) given
given_values p f given zero each within = refl
given_values p f given (suc n) each within =
    let same : suc n ≡ n + 1 = omega arith in
    let here : free_before p (n + 1) ≤ length given = subst (λ k. free_before p k ≤ length given) same within in
    let fewer : free_before p n ≤ length given = omega (arith, step_up p n (p n) refl) in
    subst (λ k. map f (filter p (numbers 0 k)) ≡ take (free_before p k) given) (sym same)
    (given_more p f given n (p n) refl (λ is. each n (omega arith) is) here
    (given_values p f given n (λ e below. each e (omega arith)) fewer))

-- ---- left elements have the values of their right sides

-- an element on no left side keeps its value
pub own_value : (s : Shape) (values memory : List ℕ) (lines : List Line) (e : ℕ)
    → list_any (λ l. l.left == e) lines ≡ false → value_by s values memory lines e ≡ slice_index values e
own_value s values memory [] e none = refl
own_value s values memory (line ∷ rest) e none =
    let parts = or_parts (line.left == e) _ none in
    rw parts.0 (own_value s values memory rest e parts.1)

-- an element that none of some lines has on its left side is apart from each
lefts_apart : (lines : List Line) (e : ℕ)
    → not (list_any (λ other. other == e) (map (λ (line : Line). line.left) lines)) ≡ true
    → All (λ (line : Line). (e == line.left) ≡ false) lines
lefts_apart [] e none = All-nil (λ (line : Line). (e == line.left) ≡ false)
lefts_apart (line ∷ rest) e none =
    let parts = neither _ _ none in
    All-cons (λ (l : Line). (e == l.left) ≡ false) line rest (turned line.left e parts.0) (lefts_apart rest e parts.1)

-- the value of a line's left element is that of its right side
abbrev HasRight : Shape → (values memory : List ℕ) → List Line → Line → Type 0
HasRight s values memory lines line = value_by s values memory lines line.left ≡ value s values memory line.right

pub left_values : (s : Shape) (values memory : List ℕ) (lines : List Line)
    → are_once (map (λ (line : Line). line.left) lines) ≡ true → All (HasRight s values memory lines) lines
left_values s values memory [] once = All-nil (HasRight s values memory [])
left_values s values memory (line ∷ rest) once =
    let parts = and_parts _ _ once in
    let apart = lefts_apart rest line.left parts.0 in
    let later = left_values s values memory rest parts.1 in
    All-cons (HasRight s values memory (line ∷ rest)) line rest (rw (eq-eqb line.left line.left refl) refl)
    (λ n other below. rw (apart n other below) (later n other below))

-- past the end of a list of values there is 0
past : (xs : List ℕ) (n : ℕ) → length xs ≤ n → slice_index xs n ≡ 0
past [] n over = refl
past (x ∷ rest) zero over = absurd (omega arith)
past (x ∷ rest) (suc n) over = past rest n (omega arith)

-- an element on no left side has one value in both lists
own_same : (s : Shape) (values memory all : List ℕ) (lines : List Line) (e : ℕ) → length all ≡ length values
    → ((i : ℕ) → i < length all → slice_index all i ≡ value_by s values memory lines i)
    → list_any (λ l. l.left == e) lines ≡ false → slice_index all e ≡ slice_index values e
own_same s values memory all lines e size each none = elim (cases_lt e (length all)) [
  | inl below ↦ each e below ∙ own_value s values memory lines e none
  | inr over ↦ past all e (omega arith) ∙ sym (past values e (omega arith))
]

-- each line holds where each element has its value
pub all_hold : (s : Shape) (values memory all : List ℕ) (lines : List Line) → length values ≡ length s.widths
    → length all ≡ length values
    → ((i : ℕ) → i < length all → slice_index all i ≡ value_by s values memory lines i) → All (IsLineOf s) lines
    → are_once (map (λ (line : Line). line.left) lines) ≡ true → list_all (reads_no_left lines) lines ≡ true
    → All (HoldsIn s all memory) lines
all_hold s values memory all lines count size each formed once free n other below =
    let line = slice_index_or lines n other in
    let reads = AllPass-from_list_all (reads_no_left lines) lines free n other below in
    each line.left (omega (arith, (formed n other below).left)) ∙ left_values s values memory lines once n other below
    ∙ sym (same_value s all values memory line.right
    (λ e stands. own_same s values memory all lines e size each (no_left lines line e reads stands)))
