-- The control points that are printed are read.
use Rattle.std.proofs.Common.{◌≡◌, ℕ, zero, suc, ◌+◌, ◌-◌, ◌^◌, ◌<◌, ◌≤◌, min, nat_lt, ◌==◌, List, [], ◌∷◌, map}
use Rattle.std.proofs.Common.{length, slice_get}
use Rattle.std.proofs.Common.{pos, true, false, Some, Ok, refl, sym, ap, subst, ◌∙◌}
use Rattle.std.proofs.Common.{arith, inl, inr}
use Rattle.std.proofs.Common.{Less, Equal, nat_cmp}
use Rattle.std.specs.Cmp.{tied_itself}
use Rattle.std.specs.Cmp.Lexicographic.{slice_cmp}
use Rattle.std.specs.List.{AllByRecursion}
use Rattle.std.specs.List.Sorted.{IsStrictlySortedBy}
use Rattle.std.specs.Str.{bytes_eq}
use Rattle.std.proofs.lemmas.Bool.{cases_Bool, eqb-true}
use Rattle.std.proofs.lemmas.Bool.Decides.{nat_tests}
use Rattle.std.proofs.lemmas.Cmp.{nat_list_cmp_total}
use Rattle.std.proofs.lemmas.Slice.Eq.{bytes_eq-Decides}
use Rattle.mw_board.specs.Order.{AreInOrder}
use Rattle.mw_board.specs.declared.field.NamedField.{NamedField}
use Rattle.toml.specs.Data.{as_str, as_integer}
use Rattle.mw_board.specs.declared.control.Control.{Control}
use Rattle.mw_board.specs.declared.control.Control.TheVariants.{Field, Fixed}
use Rattle.mw_board.specs.declared.control.Points.{Points}
use Rattle.mw_board.specs.declared.point.Point.{Point}
use Rattle.mw_board.specs.declared.point.Point.TheVariants.{AluSource, AluFunction, AluDestination, AAddress, BAddress}
use Rattle.mw_board.specs.declared.point.Point.TheVariants.{Sequencer, Branch, TestDisable, Polarity, Ci, Rld, MarLoad}
use Rattle.mw_board.specs.declared.point.Point.TheVariants.{IrLoad, MemoryWrite, Out, CarryIn, D, Condition, Link}
use Rattle.mw_board.specs.Points.{driver_of, with_driver}
use Rattle.mw_board.specs.Rules.{driver_rule}
use Rattle.mw_boardfile.specs.Control.{constant, control_field, named_or_constant, driver_in, given_point}
use Rattle.mw_boardfile.specs.Fields.{field_number}
use Rattle.mw_boardfile.specs.Lists.{first_place}
use Rattle.mw_boardfile.specs.Printed.{field_name, usual_constant, control_printed, driver_printed}

-- what is so of each name is so of the name of each field
of_name : (P : List ℕ → Type 0) (fields : List NamedField) (n : ℕ) (f : NamedField)
    → AllByRecursion P (map (λ (g : NamedField). g.name) fields) → slice_get fields n ≡ Some f → P f.name
of_name P [] n f all at = cc
of_name P (g ∷ rest) zero f all at =
    let one : g ≡ f = cc in
    subst (λ (x : NamedField). P x.name) one all.0
of_name P (g ∷ rest) (suc n) f all at = of_name P rest n f all.1 at

less_apart : (name other : List ℕ) → slice_cmp nat_cmp other name ≡ Less → bytes_eq name other ≡ false
less_apart name other less = elim (cases_Bool (bytes_eq name other)) [
  | inl same ↦ let one : name ≡ other = (bytes_eq-Decides name other).0 same in
      let tied : slice_cmp nat_cmp other name ≡ Equal = rw one (tied_itself nat_list_cmp_total other) in
      let clash : Less ≡ Equal = sym less ∙ tied in
      cc
  | inr apart ↦ apart
]

first_named : (fields : List NamedField) (n k : ℕ) (f : NamedField) → AreInOrder fields → slice_get fields n ≡ Some f
    → first_place (λ g. bytes_eq f.name g.name) k fields ≡ Some (k + n)
unfolding IsStrictlySortedBy first_place
first_named [] n k f order at = cc
first_named (g ∷ rest) zero k f order at =
    let one : g ≡ f = cc in
    let same : bytes_eq f.name g.name ≡ true =
    (bytes_eq-Decides f.name g.name).1 (ap (λ (x : NamedField). x.name) (sym one)) in
    let sum : k + 0 ≡ k = omega arith in
    rw (same, sum) refl
first_named (g ∷ rest) (suc n) k f order at =
    let apart : bytes_eq f.name g.name ≡ false =
    less_apart f.name g.name (of_name (λ y. slice_cmp nat_cmp g.name y ≡ Less) rest n f order.0 at) in
    let sum : k + suc n ≡ k + 1 + n = omega arith in
    rw (apart, sum) (first_named rest n (k + 1) f order.1 at)

-- a field is found by its name
pub field_found : (fields : List NamedField) (n : ℕ) (f : NamedField) → AreInOrder fields → slice_get fields n ≡ Some f
    → field_number fields f.name ≡ Some n
unfolding field_number
field_found fields n f order at =
    let sum : 0 + n ≡ n = omega arith in
    first_named fields n 0 f order at ∙ ap (λ (i : ℕ). Some i) sum

-- ---- controls

-- the item at a place within a list
pub within_some : {A : Type 0} (xs : List A) (n : ℕ) → n < length xs → (x : A) × (slice_get xs n ≡ Some x)
within_some [] n h = absurd (omega arith)
within_some (x ∷ rest) zero h = (x, refl)
within_some (x ∷ rest) (suc n) h = within_some rest n (omega arith)

-- a field's name is read as the field
name_read : (fields : List NamedField) (n : ℕ) → AreInOrder fields → length fields ≤ 64 → n < length fields
    → control_field fields (field_name (slice_get fields n)) ≡ Ok (Field n)
name_read fields n order few h =
    let some = within_some fields n h in
    let part : nat_lt n 256 ≡ true = grind (arith, nat_tests, h, few) in
    rw (some.1, field_found fields n some.0 order some.1, part) refl

constant_read : (value : ℕ) → value < 2 ^ 32 → constant (pos value) ≡ Ok (Fixed value)
constant_read value h =
    let same : min value (2 ^ 32 - 1) ≡ value = omega arith in
    rw same refl

-- a field, or a constant of 32 bits
abbrev pub IsPrintable : List NamedField → Control → Type 0
IsPrintable fields (Field n) = n < length fields
IsPrintable fields (Fixed value) = value < 2 ^ 32

-- a control that is printed is read
pub control_read : (fields : List NamedField) (control : Control) → AreInOrder fields → length fields ≤ 64
    → IsPrintable fields control
    → named_or_constant fields (as_str (control_printed fields control)) (as_integer (control_printed fields control))
    ≡ Ok control
control_read fields (Field n) order few is = name_read fields n order few is
control_read fields (Fixed value) order few is = constant_read value is

-- ---- control points

same_driver : (points : Points) (point : Point) (driver : Control) → driver_of points point ≡ driver
    → with_driver points point driver ≡ points
same_driver points AluSource driver is = rw (← is) refl
same_driver points AluFunction driver is = rw (← is) refl
same_driver points AluDestination driver is = rw (← is) refl
same_driver points AAddress driver is = rw (← is) refl
same_driver points BAddress driver is = rw (← is) refl
same_driver points Sequencer driver is = rw (← is) refl
same_driver points Branch driver is = rw (← is) refl
same_driver points TestDisable driver is = rw (← is) refl
same_driver points Polarity driver is = rw (← is) refl
same_driver points Ci driver is = rw (← is) refl
same_driver points Rld driver is = rw (← is) refl
same_driver points MarLoad driver is = rw (← is) refl
same_driver points IrLoad driver is = rw (← is) refl
same_driver points MemoryWrite driver is = rw (← is) refl
same_driver points Out driver is = rw (← is) refl
same_driver points CarryIn driver is = rw (← is) refl
same_driver points D driver is = rw (← is) refl
same_driver points Condition driver is = rw (← is) refl
same_driver points Link driver is = rw (← is) refl

driver_read : (fields : List NamedField) (point : Point) (driver : Control) → AreInOrder fields → length fields ≤ 64
    → IsPrintable fields driver → driver_rule fields point driver ≡ Ok tt
    → driver_in fields point (control_printed fields driver) ≡ Ok driver
unfolding driver_in
driver_read fields point driver order few is rule = rw (control_read fields driver order few is, rule) refl

pub point_read : (fields : List NamedField) (before : Points) (point : Point) (driver : Control) → AreInOrder fields
    → length fields ≤ 64 → IsPrintable fields driver → driver_rule fields point driver ≡ Ok tt
    → driver_of before point ≡ Fixed (usual_constant point)
    → given_point fields before point (driver_printed fields point driver) ≡ Ok (with_driver before point driver)
point_read fields before point (Field n) order few is rule usual =
    rw (driver_read fields point (Field n) order few is rule) refl
point_read fields before point (Fixed value) order few is rule usual =
    elim (cases_Bool (value == usual_constant point)) [
      | inl same ↦ let v : value ≡ usual_constant point = eqb-true value (usual_constant point) same in
          let kept = same_driver before point (Fixed value) (usual ∙ ap (λ (n : ℕ). Fixed n) (sym v)) in
          rw same (ap (λ (p : Points). Ok p) (sym kept))
      | inr apart ↦ rw (apart, driver_read fields point (Fixed value) order few is rule) refl
    ]
