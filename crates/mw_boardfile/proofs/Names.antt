-- Fields and flip-flops are found by their names.
use Rattle.std.proofs.Common.{◌≡◌, ℕ, zero, suc, ◌+◌, ◌<◌, ◌≤◌, List, [], ◌∷◌, ◌++◌, length, map, slice_get}
use Rattle.std.proofs.Common.{Bool, true, false, not, nat_lt, Some, None, Ok, refl, ap, subst, ◌∙◌}
use Rattle.std.proofs.Common.{codes, arith}
use Rattle.std.proofs.Common.{append_assoc, length-append}
use Rattle.std.specs.List.{All, AllByRecursion, list_any}
use Rattle.std.specs.Str.{bytes_eq}
use Rattle.std.proofs.lemmas.Bool.{or_parts}
use Rattle.std.proofs.lemmas.Bool.Decides.{nat_tests}
use Rattle.std.proofs.lemmas.List.Elements.{All-weaker}
use Rattle.std.proofs.lemmas.Slice.Eq.{bytes_eq-Decides}
use Rattle.toml.specs.Data.{Data}
use Rattle.mw_base.specs.declared.cause.Cause.TheVariants.{BadValue, Twice}
use Rattle.mw_base.specs.Names.{is_name}
use Rattle.mw_board.specs.declared.field.NamedField.{NamedField}
use Rattle.mw_board.specs.declared.flipflop.FlipFlop.{FlipFlop}
use Rattle.mw_board.specs.declared.parts.BoardParts.{BoardParts}
use Rattle.mw_board.specs.Check.{flipflops_from}
use Rattle.mw_board.specs.Depth.{depth_of}
use Rattle.mw_board.specs.Elements.{is_reserved}
use Rattle.mw_board.specs.Order.{AreInOrder}
use Rattle.mw_board.specs.Rules.{ask, name_rule, flipflop_name_rule, is_flipflop_name}
use Rattle.mw_boardfile.specs.Entries.{has_name, flip_number}
use Rattle.mw_boardfile.specs.Kept.{FieldKeeps}
use Rattle.mw_boardfile.specs.Lists.{first_place}
use Rattle.mw_boardfile.specs.Printed.{flipflop_name, flipflop_keys_printed, flipflop_printed, flipflops_printed}
use Rattle.mw_boardfile.proofs.Parts.{all_hold, asked, flipflops_hold}
use Rattle.mw_boardfile.proofs.PrintedPoints.{within_some}
use Rattle.mw_boardfile.proofs.Tables.{found}

-- ---- the first that passes

pub first_none : {A : Type 0} (test : A → Bool) (k : ℕ) (xs : List A) → list_any test xs ≡ false
    → first_place test k xs ≡ None
unfolding first_place
first_none test k [] none = refl
first_none test k (x ∷ rest) none =
    let parts = or_parts (test x) (list_any test rest) none in
    rw parts.0 (first_none test (k + 1) rest parts.1)

pub first_after : {A : Type 0} (test : A → Bool) (k : ℕ) (front : List A) (x : A) (back : List A)
    → list_any test front ≡ false → test x ≡ true → first_place test k (front ++ x ∷ back) ≡ Some (k + length front)
unfolding first_place
first_after test k [] x back none passes =
    let sum : k + 0 ≡ k = omega arith in
    rw (passes, sum) refl
first_after test k (y ∷ rest) x back none passes =
    let parts = or_parts (test y) (list_any test rest) none in
    let sum : k + suc (length rest) ≡ k + 1 + length rest = omega arith in
    rw (parts.0, sum) (first_after test (k + 1) rest x back parts.1 passes)

first_mapped : {A B : Type 0} (test : B → Bool) (other : A → Bool) (f : A → B) → ((x : A) → test (f x) ≡ other x)
    → (k : ℕ) (xs : List A) → first_place test k (map f xs) ≡ first_place other k xs
unfolding first_place
first_mapped test other f same k [] = refl
first_mapped test other f same k (x ∷ rest) = rw (same x, first_mapped test other f same (k + 1) rest) refl

-- what is so of each is so of the one at a place
pub holds_at : {A : Type 0} (P : A → Type 0) (xs : List A) (n : ℕ) (x : A) → AllByRecursion P xs
    → slice_get xs n ≡ Some x → P x
holds_at P [] n x all at = cc
holds_at P (y ∷ rest) zero x all at =
    let one : y ≡ x = cc in
    subst P one all.0
holds_at P (y ∷ rest) (suc n) x all at = holds_at P rest n x all.1 at

-- ---- names

-- each field has a name
abbrev pub is_named : NamedField → Type 0
is_named f = is_name f.name ≡ true

field_named : (microword : ℕ) (f : NamedField) → FieldKeeps microword f → is_named f
unfolding name_rule
field_named microword f keep = asked (is_name f.name) BadValue keep.0

pub fields_named : (microword : ℕ) (fields : List NamedField) → All (FieldKeeps microword) fields → All is_named fields
fields_named microword fields all = All-weaker (FieldKeeps microword) is_named (field_named microword) fields all

not_true : (b : Bool) → not b ≡ true → b ≡ false
not_true true e = cc
not_true false e = refl

-- a flip-flop has a name, and none before it has the same
flipflop_named : (depth : ℕ) (earlier : List FlipFlop) (name : List ℕ) → flipflop_name_rule depth earlier name ≡ Ok tt
    → (is_name name ≡ true) × (is_flipflop_name earlier name ≡ false)
unfolding flipflop_name_rule
flipflop_named depth earlier name e =
    let parts = all_hold (
    ask (is_name name) BadValue
    ∷ ask (not (is_reserved depth name)) Twice
    ∷ ask (not (is_flipflop_name earlier name)) Twice
    ∷ []) e in (
      asked (is_name name) BadValue parts.0,
      not_true (is_flipflop_name earlier name) (asked (not (is_flipflop_name earlier name)) Twice parts.1.1.0),
    )

pub flipflops_named : (p : BoardParts) (earlier : List FlipFlop) (i : ℕ) (fs : List FlipFlop)
    → flipflops_from p earlier i fs ≡ Ok tt → AllByRecursion (λ f. is_name f.name ≡ true) fs
flipflops_named p earlier i [] holds = tt
flipflops_named p earlier i (f ∷ rest) holds =
    let both = flipflops_hold p earlier i f rest holds in (
      (flipflop_named (depth_of p) earlier f.name both.0.name).0,
      flipflops_named p (earlier ++ f ∷ []) (i + 1) rest both.1,
    )

-- the first flip-flop of its name is itself
first_of_name : (p : BoardParts) (earlier : List FlipFlop) (i : ℕ) (fs : List FlipFlop) (n : ℕ) (f : FlipFlop)
    → flipflops_from p earlier i fs ≡ Ok tt → slice_get fs n ≡ Some f
    → first_place (λ g. bytes_eq f.name g.name) 0 (earlier ++ fs) ≡ Some (length earlier + n)
first_of_name p earlier i [] n f holds at = cc
first_of_name p earlier i (g ∷ rest) zero f holds at =
    let one : g ≡ f = cc in
    let here = (flipflops_hold p earlier i g rest holds).0 in
    let new = (flipflop_named (depth_of p) earlier g.name here.name).1 in
    let itself : bytes_eq g.name g.name ≡ true = (bytes_eq-Decides g.name g.name).1 refl in
    let sum : 0 + length earlier ≡ length earlier + 0 = omega arith in
    subst (λ (x : FlipFlop).
    first_place (λ y. bytes_eq x.name y.name) 0 (earlier ++ g ∷ rest) ≡ Some (length earlier + 0)) one
    (first_after (λ y. bytes_eq g.name y.name) 0 earlier g rest new itself ∙ ap (λ (k : ℕ). Some k) sum)
first_of_name p earlier i (g ∷ rest) (suc n) f holds at =
    let both = flipflops_hold p earlier i g rest holds in
    let others = first_of_name p (earlier ++ g ∷ []) (i + 1) rest n f both.1 at in
    let count : length (earlier ++ g ∷ []) + n ≡ length earlier + suc n =
    omega (arith, length-append earlier (g ∷ [])) in
    subst (λ (fs : List FlipFlop). first_place (λ y. bytes_eq f.name y.name) 0 fs ≡ Some (length earlier + suc n))
    (append_assoc earlier (g ∷ []) rest) (others ∙ ap (λ (k : ℕ). Some k) count)

-- a table of a flip-flop has its name
has_name_printed : (fields : List NamedField) (flipflops : List FlipFlop) (name : List ℕ) (f : FlipFlop)
    → has_name name (flipflop_printed fields flipflops f) ≡ bytes_eq name f.name
unfolding has_name
has_name_printed fields flipflops name f =
    rw (found (flipflop_keys_printed fields flipflops f) refl (codes "name")) refl

-- a flip-flop is found by its name
pub flipflop_found : (p : BoardParts) (n : ℕ) → flipflops_from p [] 0 p.flipflop ≡ Ok tt → length p.flipflop ≤ 16
    → n < length p.flipflop
    → flip_number (flipflops_printed p.fields p.flipflop) (flipflop_name (slice_get p.flipflop n)) ≡ Ok n
unfolding flip_number
flipflop_found p n holds few h =
    let some = within_some p.flipflop n h in
    let name = some.0.name in
    let sum : 0 + n ≡ n = omega arith in
    let place : first_place (λ g. bytes_eq name g.name) 0 p.flipflop ≡ Some n =
    first_of_name p [] 0 p.flipflop n some.0 holds some.1 ∙ ap (λ (k : ℕ). Some k) sum in
    let part : nat_lt n 256 ≡ true = grind (arith, nat_tests, h, few) in
    rw (
      some.1,
      first_mapped (has_name name) (λ g. bytes_eq name g.name) (flipflop_printed p.fields p.flipflop)
          (has_name_printed p.fields p.flipflop name) 0 p.flipflop,
      place,
      part,
    ) refl

-- what is so of the names of a board, where its flip-flops are in these tables
pub record AreFound (fields : List NamedField) (flipflops : List FlipFlop) (tables : List Data) : Type 0 where
  pub order : AreInOrder fields
  pub few : length fields ≤ 64
  pub field_names : AllByRecursion is_named fields
  pub flipflop_names : AllByRecursion (λ f. is_name f.name ≡ true) flipflops
  pub number : (n : ℕ) → n < length flipflops → flip_number tables (flipflop_name (slice_get flipflops n)) ≡ Ok n
  pub count : length tables ≡ length flipflops
