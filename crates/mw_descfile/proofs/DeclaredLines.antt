-- What each line before the statements keeps.
use Rattle.std.proofs.Common.{◌≡◌, ℕ, ◌+◌, ◌<◌, ◌≤◌, List, [], ◌∷◌, ◌++◌, length, take, Bool, true, false, refl, sym}
use Rattle.std.proofs.Common.{arith, subst, cond, append_assoc, append-nil, IfSome, IsSome}
use Rattle.std.specs.Prelude.{Option, Some, None, nat_le, nat_lt, ◌||◌, is_some, codes, if◌then◌else◌, bytes_eq}
use Rattle.std.specs.Prelude.{slice_index, Ok, Err}
use Rattle.std.specs.List.{All}
use Rattle.std.proofs.lemmas.Bool.{or_parts}
use Rattle.std.proofs.lemmas.Bool.Decides.{nat_tests}
use Rattle.std.proofs.lemmas.List.Elements.{All-nil}
use Rattle.std.proofs.Math.Seq.{take-append_seam, get_or-append_seam}
use Rattle.mw_base.specs.declared.cause.Cause.TheVariants.{TooMany, Twice, ValueTooWide}
use Rattle.mw_base.specs.declared.cursor.Numeral.{Numeral}
use Rattle.mw_base.specs.declared.refusal.TextFault.{TextFault}
use Rattle.mw_base.specs.declared.token.Token.{Token}
use Rattle.mw_base.specs.Named.{new_name}
use Rattle.mw_base.specs.Names.{is_spelled_as_name}
use Rattle.mw_base.specs.Symbols.{spelled}
use Rattle.mw_base.specs.TokenLines.{fault_on}
use Rattle.mw_base.proofs.Results.{ok_of, ok_is, bind_ok, if_ok}
use Rattle.mw_macro.specs.Right.{IsBetween}
use Rattle.mw_macro.specs.Rules.{is_reserved, is_within}
use Rattle.mw_descfile.specs.declared.declaration.Sizes.{Sizes}
use Rattle.mw_descfile.specs.declared.element.Element.{Element}
use Rattle.mw_descfile.specs.declared.element.Kind.{Kind}
use Rattle.mw_descfile.specs.declared.element.Kind.TheVariants.{Register, Temporary}
use Rattle.mw_descfile.specs.Declarations.{Elements, Declared, no_elements, with_element, ranged, with_sizes, few}
use Rattle.mw_descfile.specs.Declarations.{new_width, of_kind, with_more, with_declared}
use Rattle.mw_descfile.specs.Kept.{AreNames, AreElements, IsDeclared, IsOver, IsStated}
use Rattle.mw_descfile.specs.Stating.{begun, number_in}
use Rattle.mw_descfile.proofs.Expressions.{length_both}
use Rattle.mw_descfile.proofs.Names.{has_more, names_between, all_more, all_both, none_taken}

-- ---- what the steps say

-- a number in its range
ranged_in : (low high : ℕ) (number : Numeral) (v : ℕ) → ranged low high number ≡ Ok v → is_within low v high ≡ true
ranged_in low high number v is =
    let both = if_ok (is_within low number.value high) number.value v (fault_on number.token ValueTooWide) is in
    subst (λ n. is_within low n high ≡ true) both.1 both.0

between : (low n high : ℕ) → is_within low n high ≡ true → IsBetween low n high
between low n high is = (grind (arith, nat_tests, is), grind (arith, nat_tests, is))

-- a memory
pub sizes_kept : (sizes : Sizes) (d : Declared) → with_sizes sizes ≡ Ok d → IsDeclared d
unfolding with_sizes
sizes_kept sizes d is =
    let one = bind_ok (ranged 1 16 sizes.address) _ d is in
    let two = bind_ok (ranged 4 32 sizes.word) _ d one.2 in
    let none : AreElements no_elements = record { few = omega arith; sized = refl; wide = refl } in
    subst IsDeclared (ok_is {F = TextFault} _ d two.2) (record {
      address = between 1 one.0 16 (ranged_in 1 16 sizes.address one.0 one.1);
      word = between 4 two.0 32 (ranged_in 4 32 sizes.word two.0 two.1);
      registers = none;
      temporaries = none;
      names = record { spelled = refl; free = refl; short = refl };
      found = All-nil _;
      placed = λ name. tt;
    })

-- what is so of a name and a width that can be declared
record IsNew (names : List ℕ → Option Element) (all : Elements) (name : List ℕ) (bits : ℕ) : Type 0 where
  few : length all.names < 128
  none : names name ≡ None
  reserved : is_reserved name ≡ false
  short : nat_le (length name) 64 ≡ true
  wide : is_within 1 bits 32 ≡ true

two_tests : (a b : Bool) (first second : TextFault) (done : Unit {0})
    → (if a then Err first else (if b then ok_of {F = TextFault} tt else Err second)) ≡ Ok done
    → (a ≡ false) × (b ≡ true)
two_tests true b first second done is = absurd cc
two_tests false true first second done is = (refl, refl)
two_tests false false first second done is = absurd cc

is_new : (text : List ℕ) (names : List ℕ → Option Element) (all : Elements) (name : Token) (width : Numeral) (bits : ℕ)
    → new_width text names all name width ≡ Ok bits → IsNew names all (spelled text name) bits
unfolding new_width new_name
is_new text names all name width bits is =
    let one = bind_ok (few all name) _ bits is in
    let two = bind_ok (new_name text names (is_reserved (spelled text name)) name) _ bits one.2 in
    let tests = two_tests (is_some (names (spelled text name)) || is_reserved (spelled text name))
    (nat_le (length (spelled text name)) 64)
    (fault_on name Twice) (fault_on name ValueTooWide) two.0 two.1 in
    let taken = or_parts (is_some (names (spelled text name))) (is_reserved (spelled text name)) tests.0 in
    let room = (if_ok (nat_lt (length all.names) 128) tt one.0 (fault_on name TooMany) one.1).0 in
    record {
      few = grind (arith, nat_tests, room);
      none = none_taken (names (spelled text name)) taken.0;
      reserved = taken.1;
      short = tests.1;
      wide = ranged_in 1 32 width bits two.2;
    }

-- ---- one element more

elements_more : (all : Elements) (name : List ℕ) (bits : ℕ) → AreElements all → length all.names < 128
    → is_within 1 bits 32 ≡ true
    → AreElements (with_element name bits all)
elements_more all name bits kept few wide =
    let names = length_both all.names (name ∷ []) in
    let widths = length_both all.widths (bits ∷ []) in
    let sized = kept.sized in
    record {
      few = omega (arith, names, few);
      sized = omega (arith, names, widths, sized);
      wide = all_more (λ w. is_within 1 w 32) all.widths bits kept.wide wide;
    }

-- where a name stands for one of some elements, it still does when there are more
still_placed : (d next : Declared) (meant : Option Element)
    → ((kind : Kind) → length (of_kind kind d).names ≤ length (of_kind kind next).names)
    → IfSome meant (λ (e : Element). e.place < length (of_kind e.kind d).names)
    → IfSome meant (λ (e : Element). e.place < length (of_kind e.kind next).names)
still_placed d next None more is = tt
still_placed d next (Some e) more is = let grown = more e.kind in omega (arith, is, grown)

register_kept : (d : Declared) (name : List ℕ) (bits : ℕ) → IsDeclared d → IsNew d.names d.registers name bits
    → is_spelled_as_name name ≡ true
    → IsDeclared (with_more Register name bits d)
register_kept d name bits kept new spelled =
    let r = d.registers.names in
    let t = d.temporaries.names in
    let next = with_more Register name bits d in
    let names = names_between d.names r t name new.none kept.found new.reserved spelled new.short kept.names in
    let found = has_more d.names r t name (record { kind = Register; place = length r }) kept.found in
    let longer = length_both r (name ∷ []) in
    let grown : (kind : Kind) → length (of_kind kind d).names ≤ length (of_kind kind next).names =
    λ kind. elim kind as (λ k. length (of_kind k d).names ≤ length (of_kind k next).names) [
      | Register ↦ omega (arith, longer)
      | Temporary ↦ omega arith
    ] in
    record {
      address = kept.address;
      word = kept.word;
      registers = elements_more d.registers name bits kept.registers new.few new.wide;
      temporaries = kept.temporaries;
      names = subst AreNames (sym (append_assoc r (name ∷ []) t)) names;
      found = subst (λ xs. All (λ x. IsSome (next.names x)) xs) (sym (append_assoc r (name ∷ []) t)) found;
      placed = λ x. elim (bytes_eq name x) as (λ b. IfSome
          (cond b (Some (record { kind = Register; place = length r })) (d.names x))
          (λ (e : Element). e.place < length (of_kind e.kind next).names)) [
            | true ↦ omega (arith, longer)
            | false ↦ still_placed d next (d.names x) grown (kept.placed x)
          ];
    }

temporary_kept : (d : Declared) (name : List ℕ) (bits : ℕ) → IsDeclared d → IsNew d.names d.temporaries name bits
    → is_spelled_as_name name ≡ true
    → IsDeclared (with_more Temporary name bits d)
temporary_kept d name bits kept new spelled =
    let r = d.registers.names in
    let t = d.temporaries.names in
    let next = with_more Temporary name bits d in
    let meant : Element = record { kind = Temporary; place = length t } in
    let all_before = subst (λ xs. All (λ x. IsSome (d.names x)) xs) (sym (append-nil (r ++ t))) kept.found in
    let names_before = subst AreNames (sym (append-nil (r ++ t))) kept.names in
    let names = names_between d.names (r ++ t) [] name new.none all_before new.reserved spelled new.short
    names_before in
    let found = has_more d.names (r ++ t) [] name meant all_before in
    let longer = length_both t (name ∷ []) in
    let grown : (kind : Kind) → length (of_kind kind d).names ≤ length (of_kind kind next).names =
    λ kind. elim kind as (λ k. length (of_kind k d).names ≤ length (of_kind k next).names) [
      | Register ↦ omega arith
      | Temporary ↦ omega (arith, longer)
    ] in
    record {
      address = kept.address;
      word = kept.word;
      registers = kept.registers;
      temporaries = elements_more d.temporaries name bits kept.temporaries new.few new.wide;
      names = subst AreNames (append_assoc r t (name ∷ [])) names;
      found = subst (λ xs. All (λ x. IsSome (next.names x)) xs) (append_assoc r t (name ∷ [])) found;
      placed = λ x. elim (bytes_eq name x) as (λ b. IfSome (cond b (Some meant) (d.names x))
          (λ (e : Element). e.place < length (of_kind e.kind next).names)) [
            | true ↦ omega (arith, longer)
            | false ↦ still_placed d next (d.names x) grown (kept.placed x)
          ];
    }

more_kept : (kind : Kind) (d : Declared) (name : List ℕ) (bits : ℕ) → IsDeclared d
    → IsNew d.names (of_kind kind d) name bits
    → is_spelled_as_name name ≡ true → IsDeclared (with_more kind name bits d)
more_kept Register d name bits kept new spelled = register_kept d name bits kept new spelled
more_kept Temporary d name bits kept new spelled = temporary_kept d name bits kept new spelled

-- an element that a line declares
pub declared_kept : (text : List ℕ) (kind : Kind) (name : Token) (width : Numeral) (d next : Declared) → IsDeclared d
    → is_spelled_as_name (spelled text name) ≡ true → with_declared text kind name width d ≡ Ok next → IsDeclared next
unfolding with_declared
declared_kept text kind name width d next kept as_name is =
    let one = bind_ok (new_width text d.names (of_kind kind d) name width) _ next is in
    subst IsDeclared (ok_is {F = TextFault} (with_more kind (spelled text name) one.0 d) next one.2)
    (more_kept kind d (spelled text name) one.0 kept
    (is_new text d.names (of_kind kind d) name width one.0 one.1) as_name)

-- ---- the first statement

-- the number of an element among all
number_below : (r t : ℕ) (kind : Kind) (place : ℕ) (d : Declared) → length (of_kind Register d).names ≡ r
    → length (of_kind Temporary d).names ≡ t
    → place < length (of_kind kind d).names → number_in r kind place < r + t
number_below r t Register place d first second is = omega (arith, first, is)
number_below r t Temporary place d first second is = omega (arith, second, is)

meant_below : (d : Declared) (meant : Option Element)
    → IfSome meant (λ (e : Element). e.place < length (of_kind e.kind d).names)
    → IfSome meant (λ (e : Element). number_in (length d.registers.names) e.kind e.place < length d.registers.names +
    length d.temporaries.names)
meant_below d None is = tt
meant_below d (Some e) is = number_below (length d.registers.names)
    (length d.temporaries.names) e.kind e.place d refl refl is

over_kept : (d : Declared) → IsDeclared d → IsOver (begun d).over
over_kept d kept =
    let r = d.registers in
    let t = d.temporaries in
    let request = codes "request" ∷ [] in
    let one = length_both (r.names ++ t.names) request in
    let first = length_both (r.widths ++ t.widths) (1 ∷ []) in
    let wide = length_both r.widths t.widths in
    let together = length_both r.names t.names in
    let rs = kept.registers in
    let ts = kept.temporaries in
    let r_few = rs.few in
    let t_few = ts.few in
    let r_sized = rs.sized in
    let t_sized = ts.sized in
    let sum : length r.names + length t.names ≡ length (r.names ++ t.names) = omega (arith, together) in
    let sum_wide : length r.names + length t.names ≡ length (r.widths ++ t.widths) =
    omega (arith, wide, r_sized, t_sized) in
    let front : take (length r.names + length t.names) (r.names ++ t.names ++ request) ≡ r.names ++ t.names =
    rw sum (take-append_seam (r.names ++ t.names) request) in
    let last : slice_index (r.widths ++ t.widths ++ 1 ∷ []) (length r.names + length t.names) ≡ 1 =
    rw sum_wide (get_or-append_seam (r.widths ++ t.widths) 1 [] 0) in
    let named : length (r.names ++ t.names ++ request) ≡ length r.names + length t.names + 1 =
    omega (arith, one, together) in
    let sized : length (r.widths ++ t.widths ++ 1 ∷ []) ≡ length r.names + length t.names + 1 =
    omega (arith, first, wide, r_sized, t_sized) in
    record {
      registers = r_few;
      temporaries = omega (arith, t_few);
      together = omega arith;
      named = named;
      names = subst AreNames (sym front) kept.names;
      sized = sized;
      wide = all_more (λ w. is_within 1 w 32) (r.widths ++ t.widths) 1
          (all_both (λ w. is_within 1 w 32) r.widths t.widths rs.wide ts.wide) refl;
      request = last;
      address = kept.address;
      word = kept.word;
      placed = λ name. meant_below d (d.names name) (kept.placed name);
    }

pub begun_kept : (d : Declared) → IsDeclared d → IsStated (begun d)
begun_kept d kept = record { over = over_kept d kept; statements = refl; reads = refl; right = λ f. refl }
