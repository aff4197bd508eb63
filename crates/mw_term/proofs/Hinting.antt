-- Which hint is the first, and what a right hint gives.
use Rattle.std.proofs.Common.{◌≡◌, ℕ, ◌<◌, ◌^◌, List, [], ◌∷◌, Option, None, Some, length, refl, ap, sym, subst}
use Rattle.std.proofs.Common.{zero, suc, arith, ◌∙◌}
use Rattle.std.proofs.lemmas.Option.{same_Some}
use Rattle.std.specs.Prelude.{◌≢◌, ◌++◌, ◌||◌, Bool, true, false, not, if◌then◌else◌, slice_get}
use Rattle.std.specs.List.{list_any, position_or_len}
use Rattle.indexmap.specs.IndexSet.{insert_key}
use Rattle.mw_term.specs.declared.hint.Hint.{Hint}
use Rattle.mw_term.specs.declared.hint.Hint.TheVariants.{Nothing, Constant, Operand, Inner}
use Rattle.mw_term.specs.declared.op.Op.{Op}
use Rattle.mw_term.specs.declared.op.Op.TheVariants.{Con}
use Rattle.mw_term.specs.Assigned.{Given}
use Rattle.mw_term.specs.Hints.{IsFirstHint, IsRight, hinted, inner_at, inner_of, meaning_at, meaning_over}
use Rattle.mw_term.specs.Hints.{operand_at}
use Rattle.mw_term.specs.Table.{Table, IsTable, Fits, op_width, widths_of, width_over}
use Rattle.mw_term.specs.Values.{IsTermOf, op_value, value_over}
use Rattle.mw_term.proofs.Operands.{operands_there}
use Rattle.mw_term.proofs.Tables.{ops_are_words, terms_have_ops, widths_count}

-- to say nothing is right
pub nothing_right : (t : Table) (op : Op) → IsRight t op Nothing
unfolding hinted
nothing_right t op = λ given. refl

pub first_none : {Rule : Type 0} (says : Rule → Hint → Type 0) (rules : List Rule) → length rules ≡ 0
    → IsFirstHint says rules Nothing
first_none says [] none = IsFirstHint.none
first_none says (rule ∷ rules) none = absurd (omega (arith, none))

pub first_here : {Rule : Type 0} (says : Rule → Hint → Type 0) (rules rest : List Rule) (rule : Rule) (hint : Hint)
    → rules ≡ rule ∷ rest → says rule hint → hint ≢ Nothing → IsFirstHint says rules hint
first_here says rules rest rule hint are said more =
    subst (λ rs. IsFirstHint says rs hint) (sym are) (IsFirstHint.here said more)

pub first_later : {Rule : Type 0} (says : Rule → Hint → Type 0) (rules rest : List Rule) (rule : Rule) (hint : Hint)
    → rules ≡ rule ∷ rest → says rule Nothing → IsFirstHint says rest hint → IsFirstHint says rules hint
first_later says rules rest rule hint are said more =
    subst (λ rs. IsFirstHint says rs hint) (sym are) (IsFirstHint.later said more)

-- ---- what a right hint gives

-- a constant that has an op's value is as wide as that
pub constant_fits : (t : Table) (op : Op) (number : ℕ) → IsTable t → Fits t op → IsRight t op (Constant number)
    → Fits t (Con number (width_over t op))
unfolding hinted
constant_fits t op number table fits right =
    let none : Given = λ word. 0 in
    let word = ops_are_words t op table fits in
    let is : number ≡ value_over t none op = ap (λ m. m.value) (right none) in
    (word.width, subst (λ (n : ℕ). n < 2 ^ width_over t op) (sym is) (word.below none))

pub constant_made : (t new : Table) (op : Op) (number width term : ℕ) → IsRight t op (Constant number)
    → width ≡ width_over t op → IsTermOf t new (Con number width) term → IsTermOf t new op term
unfolding hinted op_width op_value
constant_made t new op number width term right wide made = record {
  there = made.there;
  width = made.width ∙ wide;
  value = λ given. made.value given ∙ ap (λ m. m.value) (right given);
}

-- a term with an op's meaning is one of that op
meant : (t : Table) (op : Op) (term : ℕ) → term < length t.ops
    → ((given : Given) → meaning_at t given (Some term) ≡ meaning_over t op given) → IsTermOf t t op term
meant t op term there same = record {
  there = there;
  width = ap (λ m. m.width) (same (λ word. 0));
  value = λ given. ap (λ m. m.value) (same given);
}

-- what isn't there has no bits
not_meant : (t : Table) (op : Op) → IsTable t → Fits t op
    → ((given : Given) → meaning_at t given None ≡ meaning_over t op given) → ⊥
not_meant t op table fits same =
    let none : 0 ≡ width_over t op = ap (λ m. m.width) (same (λ word. 0)) in
    let word = ops_are_words t op table fits in
    omega (arith, none, word.width.0)

pub operand_made : (t : Table) (op : Op) (k term : ℕ) → Fits t op → IsRight t op (Operand k)
    → operand_at op k ≡ Some term → IsTermOf t t op term
unfolding hinted
operand_made t op k term fits right is =
    let inside : term < length (widths_of t.ops) = operands_there t.map (widths_of t.ops) op k term fits is in
    meant t op term (omega (arith, inside, widths_count t.ops))
    (λ given. subst (λ found. meaning_at t given found ≡ meaning_over t op given) is (right given))

pub operand_missing : (t : Table) (op : Op) (k : ℕ) → IsTable t → Fits t op → IsRight t op (Operand k)
    → operand_at op k ≡ None → ⊥
unfolding hinted
operand_missing t op k table fits right is =
    not_meant t op table fits
    (λ given. subst (λ found. meaning_at t given found ≡ meaning_over t op given) is (right given))

-- an operand of a term of a table is one
inner_there : (t : Table) (outer : Option ℕ) (i term : ℕ) → IsTable t → inner_at t outer i ≡ Some term
    → term < length t.ops
inner_there t None i term table is = absurd cc
inner_there t (Some operand) i term table is = of_op (slice_get t.ops operand) refl is
  where
    of_op : (found : Option Op) → slice_get t.ops operand ≡ found → inner_of found i ≡ Some term → term < length t.ops
    of_op None none is = absurd cc
    of_op (Some op) some is =
        let fits = (terms_have_ops t operand op table some).fits in
        let inside : term < length (widths_of t.ops) = operands_there t.map (widths_of t.ops) op i term fits is in
        omega (arith, inside, widths_count t.ops)

pub inner_made : (t : Table) (op : Op) (k i term : ℕ) → IsTable t → IsRight t op (Inner k i)
    → inner_at t (operand_at op k) i ≡ Some term → IsTermOf t t op term
unfolding hinted
inner_made t op k i term table right is =
    meant t op term (inner_there t (operand_at op k) i term table is)
    (λ given. subst (λ found. meaning_at t given found ≡ meaning_over t op given) is (right given))

pub inner_missing : (t : Table) (op : Op) (k i : ℕ) → IsTable t → Fits t op → IsRight t op (Inner k i)
    → inner_at t (operand_at op k) i ≡ None → ⊥
unfolding hinted
inner_missing t op k i table fits right is =
    not_meant t op table fits
    (λ given. subst (λ found. meaning_at t given found ≡ meaning_over t op given) is (right given))

-- ---- ops once

-- a term with an op is one of that op
pub interned : (t : Table) (op : Op) (term : ℕ) → IsTable t → slice_get t.ops term ≡ Some op → IsTermOf t t op term
interned t op term table is = (terms_have_ops t term op table is).is

-- ---- the index

none_before : {X : Type 0} (test : X → Bool) (xs : List X) → list_any test xs ≡ false
    → position_or_len test xs ≡ length xs
none_before test [] none = refl
none_before test (x ∷ xs) none =
    let parts = or_false (test x) (list_any test xs) none in
    rw parts.0 (omega (arith, none_before test xs parts.1))
  where
    or_false : (a b : Bool) → (a || b) ≡ false → (a ≡ false) × (b ≡ false)
    or_false true b is = absurd cc
    or_false false b is = (refl, is)

-- what is new goes last
pub added_last : {X : Type 0} (same : X → X → Bool) (keys : List X) (x : X) (is_new : Bool)
    → is_new ≡ not (list_any (same x) keys) → is_new ≡ true
    → (insert_key same keys x ≡ keys ++ x ∷ []) × (position_or_len (same x) keys ≡ length keys)
added_last same keys x is_new said new = by_any (list_any (same x) keys) refl
  where
    by_any : (found : Bool) → list_any (same x) keys ≡ found
        → (insert_key same keys x ≡ keys ++ x ∷ []) × (position_or_len (same x) keys ≡ length keys)
    by_any true is = absurd cc
    by_any false is = (ap (λ (b : Bool). if b then keys else keys ++ x ∷ []) is, none_before (same x) keys is)

there_any : {X : Type 0} (same : X → X → Bool) → ((x : X) → same x x ≡ true) → (xs : List X) (x : X) (place : ℕ)
    → slice_get xs place ≡ Some x → list_any (same x) xs ≡ true
there_any same own [] x place is = absurd cc
there_any same own (y ∷ xs) x zero is =
    ap (λ b. b || list_any (same x) xs) (subst (λ z. same x z ≡ true) (sym (same_Some y x is)) (own x))
there_any same own (y ∷ xs) x (suc place) is = or_true (same x y) (list_any (same x) xs)
    (there_any same own xs x place is)
  where
    or_true : (a b : Bool) → b ≡ true → (a || b) ≡ true
    or_true true b is = refl
    or_true false b is = is

-- and was not there
pub absent_before : {X : Type 0} (same : X → X → Bool) → ((x : X) → same x x ≡ true) → (keys : List X) (x : X)
    (is_new : Bool) → is_new ≡ not (list_any (same x) keys) → is_new ≡ true → (place : ℕ)
    → ¬ (slice_get keys place ≡ Some x)
absent_before same own keys x is_new said new place = λ is.
    (let there = there_any same own keys x place is in
    cc)
