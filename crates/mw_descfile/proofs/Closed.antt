-- The machine that would end between two lines, and what another statement makes of it.
use Rattle.std.proofs.Common.{◌≡◌, ℕ, ◌+◌, ◌-◌, List, [], ◌∷◌, ◌++◌, length, refl, arith, subst}
use Rattle.std.specs.Prelude.{Option, Some, None, false}
use Rattle.std.proofs.lemmas.Bool.{or_from, or_parts}
use Rattle.mw_expr.specs.declared.shape.Shape.{Shape}
use Rattle.mw_expr.specs.Tree.{Tree}
use Rattle.mw_macro.specs.declared.counts.Counted.{Counted}
use Rattle.mw_macro.specs.declared.counts.Counted.TheVariants.{Statements, Reads, Events}
use Rattle.mw_macro.specs.declared.rules.Fault.{Fault}
use Rattle.mw_macro.specs.Counts.{own, count, total}
use Rattle.mw_macro.specs.Rules.{is_fault, is_nesting_fault, has_fault, have_fault}
use Rattle.mw_macro.specs.Statements.{Act, acts_of}
use Rattle.mw_descfile.specs.Kept.{closed}
use Rattle.mw_descfile.specs.Stating.{OpenIf, closed_if}

-- ---- faults

-- some statements have no fault
abbrev pub AreFree : Fault → Shape → (levels : ℕ) → List Act → Type 0
AreFree f s levels acts = have_fault f s levels (acts_of acts) ≡ false

both_free : (f : Fault) (s : Shape) (levels : ℕ) (xs ys : List Act) → AreFree f s levels xs → AreFree f s levels ys
    → AreFree f s levels (xs ++ ys)
both_free f s levels [] ys one other = other
both_free f s levels (x ∷ xs) ys one other =
    let parts = or_parts (has_fault f s levels x) (have_fault f s levels (acts_of xs)) one in
    or_from (has_fault f s levels x) (have_fault f s levels (acts_of (xs ++ ys))) parts.0
    (both_free f s levels xs ys parts.1 other)

front_free : (f : Fault) (s : Shape) (levels : ℕ) (xs ys : List Act) → AreFree f s levels (xs ++ ys)
    → AreFree f s levels xs
front_free f s levels [] ys all = refl
front_free f s levels (x ∷ xs) ys all =
    let parts = or_parts (has_fault f s levels x) (have_fault f s levels (acts_of (xs ++ ys))) all in
    or_from (has_fault f s levels x) (have_fault f s levels (acts_of xs)) parts.0 (front_free f s levels xs ys parts.1)

back_free : (f : Fault) (s : Shape) (levels : ℕ) (xs ys : List Act) → AreFree f s levels (xs ++ ys)
    → AreFree f s levels ys
back_free f s levels [] ys all = all
back_free f s levels (x ∷ xs) ys all =
    back_free f s levels xs ys (or_parts (has_fault f s levels x) (have_fault f s levels (acts_of (xs ++ ys))) all).1

one_free : (f : Fault) (s : Shape) (levels : ℕ) (x : Act) → has_fault f s levels x ≡ false → AreFree f s levels (x ∷ [])
one_free f s levels x is = or_from (has_fault f s levels x) false is refl

-- an `if` whose last list is another without faults
if_free : (f : Fault) (s : Shape) (levels : ℕ) (condition : Tree) (first : Option (List Act)) (old new : List Act)
    → (AreFree f s (levels - 1) old → AreFree f s (levels - 1) new)
    → has_fault f s levels (closed_if condition first old) ≡ false
    → has_fault f s levels (closed_if condition first new) ≡ false
if_free f s levels condition None old new step is =
    let one = or_parts (is_nesting_fault f levels) _ is in
    let two = or_parts (is_fault f s 1 condition) _ one.1 in
    let lists = or_parts (have_fault f s (levels - 1) (acts_of old)) false two.1 in
    or_from (is_nesting_fault f levels) _ one.0 (or_from (is_fault f s 1 condition) _ two.0
    (or_from (have_fault f s (levels - 1) (acts_of new)) false (step lists.0) refl))
if_free f s levels condition (Some first) old new step is =
    let one = or_parts (is_nesting_fault f levels) _ is in
    let two = or_parts (is_fault f s 1 condition) _ one.1 in
    let lists = or_parts (have_fault f s (levels - 1) (acts_of first))
    (have_fault f s (levels - 1) (acts_of old)) two.1 in
    or_from (is_nesting_fault f levels) _ one.0 (or_from (is_fault f s 1 condition) _ two.0
    (or_from (have_fault f s (levels - 1) (acts_of first)) (have_fault f s (levels - 1) (acts_of new)) lists.0
    (step lists.1)))

-- other statements without faults in the list that is open
pub others_free : (f : Fault) (s : Shape) (all : List OpenIf) (old new : List Act)
    → (AreFree f s (64 - length all) old → AreFree f s (64 - length all) new)
    → AreFree f s 64 (closed old all) → AreFree f s 64 (closed new all)
others_free f s [] old new step free = step free
others_free f s (top ∷ rest) old new step free =
    let levels = 64 - length rest in
    let below : 64 - length (top ∷ rest) ≡ levels - 1 = omega arith in
    let inner = subst (λ n. AreFree f s n old → AreFree f s n new) below step in
    let was = closed_if top.condition top.first old in
    let now = closed_if top.condition top.first new in
    let turned = λ (is : AreFree f s levels (top.before ++ was ∷ [])).
    both_free f s levels top.before (now ∷ []) (front_free f s levels top.before (was ∷ []) is)
    (one_free f s levels now (if_free f s levels top.condition top.first old new inner
    (or_parts (has_fault f s levels was) false (back_free f s levels top.before (was ∷ []) is)).0)) in
    others_free f s rest (top.before ++ was ∷ []) (top.before ++ now ∷ []) turned free

-- one more statement without a fault
pub more_free : (f : Fault) (s : Shape) (all : List OpenIf) (acts : List Act) (act : Act)
    → has_fault f s (64 - length all) act ≡ false
    → AreFree f s 64 (closed acts all) → AreFree f s 64 (closed (acts ++ act ∷ []) all)
more_free f s all acts act is free =
    others_free f s all acts (acts ++ act ∷ [])
    (λ was. both_free f s (64 - length all) acts (act ∷ []) was (one_free f s (64 - length all) act is)) free

-- ---- counts

total_both : (what : Counted) (xs ys : List Act)
    → total what (acts_of (xs ++ ys)) ≡ total what (acts_of xs) + total what (acts_of ys)
total_both what [] ys = omega arith
total_both what (x ∷ xs) ys = let both = total_both what xs ys in omega (arith, both)

-- what an `if` counts for by itself doesn't depend on its lists
own_same : (what : Counted) (condition : Tree) (first : Option (List Act)) (old new : List Act)
    → own what (closed_if condition first old) ≡ own what (closed_if condition first new)
own_same Statements condition None old new = refl
own_same Statements condition (Some first) old new = refl
own_same Reads condition None old new = refl
own_same Reads condition (Some first) old new = refl
own_same Events condition None old new = refl
own_same Events condition (Some first) old new = refl

if_total : (what : Counted) (condition : Tree) (first : Option (List Act)) (old new : List Act) (n : ℕ)
    → total what (acts_of new) ≡ total what (acts_of old) + n
    → count what (closed_if condition first new) ≡ count what (closed_if condition first old) + n
if_total what condition None old new n is =
    let same = own_same what condition None old new in omega (arith, is, same)
if_total what condition (Some first) old new n is =
    let same = own_same what condition (Some first) old new in omega (arith, is, same)

-- other statements in the list that is open, which count for so much more
pub others_total : (what : Counted) (all : List OpenIf) (old new : List Act) (n : ℕ)
    → total what (acts_of new) ≡ total what (acts_of old) + n
    → total what (acts_of (closed new all)) ≡ total what (acts_of (closed old all)) + n
others_total what [] old new n is = is
others_total what (top ∷ rest) old new n is =
    let was = closed_if top.condition top.first old in
    let now = closed_if top.condition top.first new in
    let one = if_total what top.condition top.first old new n is in
    let before = total_both what top.before (was ∷ []) in
    let after = total_both what top.before (now ∷ []) in
    others_total what rest (top.before ++ was ∷ []) (top.before ++ now ∷ []) n (omega (arith, one, before, after))

-- one more statement
pub more_total : (what : Counted) (all : List OpenIf) (acts : List Act) (act : Act)
    → total what (acts_of (closed (acts ++ act ∷ []) all)) ≡ total what (acts_of (closed acts all)) + count what act
more_total what all acts act =
    let both = total_both what acts (act ∷ []) in
    others_total what all acts (acts ++ act ∷ []) (count what act) (omega (arith, both))
