-- What an accepted machine has.
use Rattle.std.proofs.Common.{◌≡◌, ℕ, zero, suc, ◌-◌, ◌<◌, ◌≤◌, List, [], ◌∷◌, length, Bool, true, false, refl, arith}
use Rattle.std.specs.Prelude.{Option, Some, None, Ok, Err, not, ◌&&◌, ◌||◌, nat_le, ◌==◌, if◌then◌else◌, slice_index}
use Rattle.std.proofs.Math.Nat.{max-le}
use Rattle.std.specs.List.{list_all}
use Rattle.std.proofs.lemmas.Bool.{and_parts}
use Rattle.std.proofs.lemmas.Bool.Decides.{nat_tests}
use Rattle.mw_base.specs.declared.cause.Cause.{Cause}
use Rattle.mw_base.specs.declared.cause.Cause.TheVariants.{TooMany, Twice, ValueTooWide, UnknownElement, WidthsDiffer}
use Rattle.mw_base.specs.declared.cause.Cause.TheVariants.{TooDeep}
use Rattle.mw_expr.specs.declared.shape.Shape.{Shape}
use Rattle.mw_expr.specs.Tree.{Tree}
use Rattle.mw_expr.specs.Widths.{width, is_known, depth, width_at, width_of}
use Rattle.mw_macro.specs.declared.counts.Counted.TheVariants.{Statements, Events}
use Rattle.mw_macro.specs.declared.rules.Fault.TheVariants.{NoElement, OtherWidth, TooNested}
use Rattle.mw_macro.specs.Counts.{count, total}
use Rattle.mw_macro.specs.Machine.{Description}
use Rattle.mw_macro.specs.Right.{IsBetween, is_asked, is_right, are_right, nesting, nesting_in, AcceptedAreRight}
use Rattle.mw_macro.specs.Rules.{is_within, is_within_limits, are_free, are_ranges, is_width, is_fault, has_fault}
use Rattle.mw_macro.specs.Rules.{have_fault, is_free_of, refusal_of}
use Rattle.mw_macro.specs.Statements.{Act, assign, write, put, take_in, choose, Acts, nothing, next}

-- a rule before others, where none is broken
kept : (k : Bool) (cause : Cause) (rest : Option Cause) → (if k then rest else Some cause) ≡ None
    → (k ≡ true) × (rest ≡ None)
kept true cause rest none = (refl, none)
kept false cause rest none = cc

-- neither of two
neither : (a b : Bool) → (a || b) ≡ false → (a ≡ false) × (b ≡ false)
neither true b h = cc
neither false b h = (refl, h)

unless : (a : Bool) → not a ≡ true → a ≡ false
unless true h = cc
unless false h = refl

-- all the rules are kept
record Keeps (m : Description) : Type 0 where
  pub limits : is_within_limits m ≡ true
  pub names : are_free m.names ≡ true
  pub ranges : are_ranges m.names m.shape ≡ true
  pub known : have_fault NoElement m.shape 64 m.acts ≡ false
  pub wide : have_fault OtherWidth m.shape 64 m.acts ≡ false
  pub shallow : have_fault TooNested m.shape 64 m.acts ≡ false

keeps : (m : Description) → refusal_of m ≡ None → Keeps m
unfolding refusal_of
keeps m none =
    let one = kept (is_within_limits m) TooMany _ none in
    let two = kept (are_free m.names) Twice _ one.1 in
    let three = kept (are_ranges m.names m.shape) ValueTooWide _ two.1 in
    let four = kept (is_free_of NoElement m) UnknownElement _ three.1 in
    let five = kept (is_free_of OtherWidth m) WidthsDiffer _ four.1 in
    let six = kept (is_free_of TooNested m) TooDeep _ five.1 in
    record {
      limits = one.0;
      names = two.0;
      ranges = three.0;
      known = unless _ four.0;
      wide = unless _ five.0;
      shallow = unless _ six.0;
    }

le_from : (n most : ℕ) → nat_le n most ≡ true → n ≤ most
le_from n most h = grind (arith, nat_tests)

-- what numbers are where they lie in their ranges
between : (low n high : ℕ) → is_within low n high ≡ true → IsBetween low n high
between low n high within =
    let both = and_parts (nat_le low n) (nat_le n high) within in
    (le_from _ _ both.0, le_from _ _ both.1)

all_between : (low high : ℕ) (ws : List ℕ) (i : ℕ) → list_all (λ w. is_within low w high) ws ≡ true → i < length ws
    → IsBetween low (slice_index ws i) high
all_between low high [] i all inside = absurd (omega arith)
all_between low high (w ∷ rest) zero all inside =
    between low w high (and_parts (is_within low w high) (list_all (λ w. is_within low w high) rest) all).0
all_between low high (w ∷ rest) (suc i) all inside =
    all_between low high rest i (and_parts (is_within low w high) (list_all
    (λ w. is_within low w high) rest) all).1 (omega arith)

-- ---- statements without faults are right

holds : (a : Bool) → not a ≡ false → a ≡ true
holds true h = refl
holds false h = cc

-- an expression with a width, not too deep
shallow_right : (shallow : Bool) (w asked : ℕ) → not (w == asked) ≡ false → not shallow ≡ false
    → is_asked asked (if shallow then Ok w else Err TooDeep) ≡ true
shallow_right true w asked wide deep = holds (w == asked) wide
shallow_right false w asked wide deep = cc

known_right : (known : Bool) (deep : ℕ) (w : Option ℕ) (asked : ℕ) → not known ≡ false → not (is_width asked w) ≡ false
    → not (nat_le deep 64) ≡ false → is_asked asked (if known then width_at deep w else Err UnknownElement) ≡ true
known_right true deep (Some w) asked known wide shallow = shallow_right (nat_le deep 64) w asked wide shallow
known_right true deep None asked known wide shallow = cc
known_right false deep w asked known wide shallow = cc

expr_right : (s : Shape) (asked : ℕ) (e : Tree) → is_fault NoElement s asked e ≡ false
    → is_fault OtherWidth s asked e ≡ false
    → is_fault TooNested s asked e ≡ false → is_asked asked (width_of s e) ≡ true
unfolding width_of
expr_right s asked e known wide shallow = known_right (is_known (length s.widths) e) (depth e)
    (width s e) asked known wide shallow

pub both : (a b : Bool) → a ≡ true → b ≡ true → (a && b) ≡ true
both true b first second = second
both false b first second = cc

mutual
  act_right : (s : Shape) (levels : ℕ) (act : Act)
      → has_fault NoElement s levels act ≡ false → has_fault OtherWidth s levels act ≡ false
      → has_fault TooNested s levels act ≡ false → is_right s act ≡ true
  act_right s levels (assign target e) known wide shallow =
      let known = neither _ _ known in
      both _ _ (holds _ known.0) (expr_right s (slice_index s.widths target) e known.1 wide shallow)
  act_right s levels (write address e) known wide shallow =
      let known = neither _ _ known in
      let wide = neither _ _ wide in
      let shallow = neither _ _ shallow in
      both _ _ (expr_right s s.address address known.0 wide.0 shallow.0)
      (expr_right s s.word e known.1 wide.1 shallow.1)
  act_right s levels (put e) known wide shallow = expr_right s s.word e known wide shallow
  act_right s levels (take_in target) known wide shallow = both _ _ (holds _ (neither _ _ known).0) (holds _ wide)
  act_right s levels (choose condition first second) known wide shallow =
      let known = neither (is_fault NoElement s 1 condition) _ known in
      let wide = neither (is_fault OtherWidth s 1 condition) _ wide in
      let shallow = neither (is_fault TooNested s 1 condition) _ (neither _ _ shallow).1 in
      let known_lists = neither _ _ known.1 in
      let wide_lists = neither _ _ wide.1 in
      let shallow_lists = neither _ _ shallow.1 in
      both _ _ (expr_right s 1 condition known.0 wide.0 shallow.0)
      (both _ _ (acts_right s (levels - 1) first known_lists.0 wide_lists.0 shallow_lists.0)
      (acts_right s (levels - 1) second known_lists.1 wide_lists.1 shallow_lists.1))

  acts_right : (s : Shape) (levels : ℕ) (all : Acts)
      → have_fault NoElement s levels all ≡ false → have_fault OtherWidth s levels all ≡ false
      → have_fault TooNested s levels all ≡ false → are_right s all ≡ true
  acts_right s levels nothing known wide shallow = refl
  acts_right s levels (next act rest) known wide shallow =
      let known = neither _ _ known in
      let wide = neither _ _ wide in
      let shallow = neither _ _ shallow in
      both _ _ (act_right s levels act known.0 wide.0 shallow.0) (acts_right s levels rest known.1 wide.1 shallow.1)

-- ---- so few `if`s stand in one another

mutual
  act_nested : (s : Shape) (levels : ℕ) (act : Act) → has_fault TooNested s levels act ≡ false → nesting act ≤ levels
  act_nested s levels (choose condition first second) shallow =
      let nested = neither _ _ shallow in
      let lists = neither _ _ (neither (is_fault TooNested s 1 condition) _ nested.1).1 in
      let some : 1 ≤ levels = le_from 1 levels (holds _ nested.0) in
      let few = max-le (acts_nested s (levels - 1) first lists.0) (acts_nested s (levels - 1) second lists.1) in
      omega (arith, few, some)
  act_nested s levels other shallow = omega arith

  acts_nested : (s : Shape) (levels : ℕ) (all : Acts) → have_fault TooNested s levels all ≡ false
      → nesting_in all ≤ levels
  acts_nested s levels nothing shallow = omega arith
  acts_nested s levels (next act rest) shallow =
      let both = neither _ _ shallow in
      max-le (act_nested s levels act both.0) (acts_nested s levels rest both.1)

-- ---- a statement makes at most one event of its own

mutual
  events_of_act : (act : Act) → count Events act ≤ count Statements act
  events_of_act (assign target e) = omega arith
  events_of_act (write address e) = omega arith
  events_of_act (put e) = omega arith
  events_of_act (take_in target) = omega arith
  events_of_act (choose condition first second) = omega (arith, events_of_acts first, events_of_acts second)

  events_of_acts : (all : Acts) → total Events all ≤ total Statements all
  events_of_acts nothing = omega arith
  events_of_acts (next act rest) = omega (arith, events_of_act act, events_of_acts rest)

-- ---- the law

pub accepted_right : AcceptedAreRight
unfolding is_within_limits are_ranges
accepted_right m none =
    let h = keeps m none in
    let limits = and_parts _ _ h.limits in
    let counts = and_parts _ _ limits.1 in
    let sizes = and_parts _ _ counts.1 in
    let ranges = and_parts _ _ h.ranges in
    let addresses = and_parts _ _ ranges.0 in
    let elements = and_parts _ _ addresses.0 in
    record {
      registers = le_from _ _ limits.0;
      temporaries = le_from _ _ counts.0;
      statements = le_from _ _ sizes.0;
      reads = le_from _ _ sizes.1;
      names = h.names;
      lengths = elements.0;
      widths = λ i inside. all_between 1 32 m.shape.widths i elements.1 inside;
      address = between 1 m.shape.address 16 addresses.1;
      word = between 4 m.shape.word 32 ranges.1;
      right = acts_right m.shape 64 m.acts h.known h.wide h.shallow;
      nested = acts_nested m.shape 64 m.acts h.shallow;
    }

-- an accepted machine has as few events as statements
pub accepted_few : (m : Description) → refusal_of m ≡ None → total Events m.acts ≤ 4096
accepted_few m none = omega (arith, events_of_acts m.acts, (accepted_right m none).statements)
