-- A machine whose parts are right is accepted.
use Rattle.std.proofs.Common.{◌≡◌, ℕ, zero, suc, ◌+◌, ◌-◌, ◌<◌, ◌≤◌, List, [], ◌∷◌, length, Bool, true, false, refl, ap}
use Rattle.std.proofs.Common.{arith}
use Rattle.std.specs.Prelude.{Option, Some, None, Ok, Err, not, ◌||◌, nat_le, nat_lt, ◌==◌, if◌then◌else◌, slice_index}
use Rattle.std.specs.List.{list_all}
use Rattle.std.proofs.Math.Nat.{le-max_left, le-max_right}
use Rattle.std.proofs.lemmas.Bool.{and_parts}
use Rattle.std.proofs.lemmas.Bool.Decides.{nat_tests}
use Rattle.mw_base.specs.declared.cause.Cause.TheVariants.{UnknownElement, TooDeep}
use Rattle.mw_expr.specs.declared.shape.Shape.{Shape}
use Rattle.mw_expr.specs.Tree.{Tree}
use Rattle.mw_expr.specs.Widths.{width, is_known, depth, width_at, width_of}
use Rattle.mw_macro.specs.declared.rules.Fault.{Fault}
use Rattle.mw_macro.specs.declared.rules.Fault.TheVariants.{NoElement, OtherWidth, TooNested}
use Rattle.mw_macro.specs.Right.{IsBetween, is_asked, is_right, are_right, nesting, nesting_in, RightAreAccepted}
use Rattle.mw_macro.specs.Rules.{is_within, is_within_limits, are_ranges, is_width, is_fault, is_target_fault}
use Rattle.mw_macro.specs.Rules.{is_input_fault, is_nesting_fault, has_fault, have_fault, is_free_of, refusal_of}
use Rattle.mw_macro.specs.Statements.{Act, assign, write, put, take_in, choose, Acts, nothing, next}
use Rattle.mw_macro.proofs.Accepted.{both}

le_true : (n most : ℕ) → n ≤ most → nat_le n most ≡ true
le_true n most le = grind (arith, nat_tests)

within : (low n high : ℕ) → IsBetween low n high → is_within low n high ≡ true
within low n high between = both _ _ (le_true low n between.0) (le_true n high between.1)

all_within : (low high : ℕ) (ws : List ℕ) → ((i : ℕ) → i < length ws → IsBetween low (slice_index ws i) high)
    → list_all (λ w. is_within low w high) ws ≡ true
all_within low high [] between = refl
all_within low high (w ∷ rest) between =
    both _ _ (within low w high (between zero (omega arith)))
    (all_within low high rest (λ i inside. between (suc i) (omega (arith, inside))))

neither_of : (a b : Bool) → a ≡ false → b ≡ false → (a || b) ≡ false
neither_of a b one other = rw (one, other) refl

-- what an expression with the width that is asked for has
record IsAsked (known shallow : Bool) (w : Option ℕ) (asked : ℕ) : Type 0 where
  pub known_so : known ≡ true
  pub wide : is_width asked w ≡ true
  pub shallow_so : shallow ≡ true

asked_shallow : (shallow : Bool) (w asked : ℕ) → is_asked asked (if shallow then Ok w else Err TooDeep) ≡ true
    → IsAsked true shallow (Some w) asked
asked_shallow true w asked right = record { known_so = refl; wide = right; shallow_so = refl }
asked_shallow false w asked right = absurd cc

asked_known : (known : Bool) (deep : ℕ) (w : Option ℕ) (asked : ℕ)
    → is_asked asked (if known then width_at deep w else Err UnknownElement) ≡ true
    → IsAsked known (nat_le deep 64) w asked
asked_known true deep (Some w) asked right = asked_shallow (nat_le deep 64) w asked right
asked_known true deep None asked right = absurd cc
asked_known false deep w asked right = absurd cc

expr_free : (fault : Fault) (s : Shape) (asked : ℕ) (e : Tree) → is_asked asked (width_of s e) ≡ true
    → is_fault fault s asked e ≡ false
unfolding width_of
expr_free NoElement s asked e right = ap not (asked_known (is_known (length s.widths) e) (depth e)
    (width s e) asked right).known_so
expr_free OtherWidth s asked e right = ap not (asked_known (is_known (length s.widths) e) (depth e)
    (width s e) asked right).wide
expr_free TooNested s asked e right = ap not (asked_known (is_known (length s.widths) e) (depth e)
    (width s e) asked right).shallow_so

target_free : (fault : Fault) (s : Shape) (target : ℕ) → nat_lt (target + 1) (length s.widths) ≡ true
    → is_target_fault fault s target ≡ false
target_free NoElement s target right = ap not right
target_free OtherWidth s target right = refl
target_free TooNested s target right = refl

input_free : (fault : Fault) (asked w : ℕ) → (w == asked) ≡ true → is_input_fault fault asked w ≡ false
input_free NoElement asked w right = refl
input_free OtherWidth asked w right = ap not right
input_free TooNested asked w right = refl

level_free : (fault : Fault) (levels : ℕ) → 1 ≤ levels → is_nesting_fault fault levels ≡ false
level_free NoElement levels some = refl
level_free OtherWidth levels some = refl
level_free TooNested levels some = ap not (le_true 1 levels some)

mutual
  act_free : (fault : Fault) (s : Shape) (levels : ℕ) (act : Act) → is_right s act ≡ true → nesting act ≤ levels
      → has_fault fault s levels act ≡ false
  act_free fault s levels (assign target e) right nested =
      let parts = and_parts _ _ right in
      neither_of _ _ (target_free fault s target parts.0) (expr_free fault s (slice_index s.widths target) e parts.1)
  act_free fault s levels (write address e) right nested =
      let parts = and_parts _ _ right in
      neither_of _ _ (expr_free fault s s.address address parts.0) (expr_free fault s s.word e parts.1)
  act_free fault s levels (put e) right nested = expr_free fault s s.word e right
  act_free fault s levels (take_in target) right nested =
      let parts = and_parts _ _ right in
      neither_of _ _ (target_free fault s target parts.0) (input_free fault
      (slice_index s.widths target) s.word parts.1)
  act_free fault s levels (choose condition first second) right nested =
      let one : nesting_in first ≤ levels - 1 = omega (
        arith,
        nested,
        le-max_left (nesting_in first)
            (nesting_in second),
      ) in
      let other : nesting_in second ≤ levels - 1 = omega (
        arith,
        nested,
        le-max_right (nesting_in first)
            (nesting_in second),
      ) in
      let parts = and_parts _ _ right in
      let lists = and_parts _ _ parts.1 in
      neither_of _ _ (level_free fault levels (omega (arith, nested)))
      (neither_of _ _ (expr_free fault s 1 condition parts.0)
      (neither_of _ _ (acts_free fault s (levels - 1) first lists.0 one) (acts_free fault s
      (levels - 1) second lists.1 other)))

  acts_free : (fault : Fault) (s : Shape) (levels : ℕ) (all : Acts) → are_right s all ≡ true → nesting_in all ≤ levels
      → have_fault fault s levels all ≡ false
  acts_free fault s levels nothing right nested = refl
  acts_free fault s levels (next act rest) right nested =
      let parts = and_parts _ _ right in
      neither_of _ _ (act_free fault s levels act parts.0 (omega (
        arith,
        nested,
        le-max_left (nesting act)
            (nesting_in rest),
      )))
      (acts_free fault s levels rest parts.1 (omega (arith, nested, le-max_right (nesting act) (nesting_in rest))))

pub right_accepted : RightAreAccepted
unfolding refusal_of is_within_limits are_ranges
right_accepted m right =
    let limits : is_within_limits m ≡ true =
    both _ _ (le_true _ _ right.registers) (both _ _ (le_true _ _ right.temporaries)
    (both _ _ (le_true _ _ right.statements) (le_true _ _ right.reads))) in
    let ranges : are_ranges m.names m.shape ≡ true =
    both _ _ (both _ _ (both _ _ right.lengths (all_within 1 32 m.shape.widths right.widths))
    (within 1 m.shape.address 16 right.address)) (within 4 m.shape.word 32 right.word) in
    let free : (fault : Fault) → is_free_of fault m ≡ true =
    λ fault. ap not (acts_free fault m.shape 64 m.acts right.right right.nested) in
    rw (limits, right.names, ranges, free NoElement, free OtherWidth, free TooNested) refl
