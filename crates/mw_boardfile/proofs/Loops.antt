-- Loops over lists, an item at a time.
use Rattle.std.proofs.Common.{◌≡◌, ℕ, suc, ◌+◌, ◌<◌, ◌≤◌, Bool, true, false, List, [], ◌∷◌, ◌++◌, length, get_or, drop}
use Rattle.std.proofs.Common.{Option, Some, None, cond, Result, Ok, Err, String, Global, refl, sym, ap, ◌∙◌, add-one}
use Rattle.std.proofs.lemmas.List.{drop_all, append-nil}
use Rattle.mw_base.specs.declared.cause.Cause.{Cause}
use Rattle.mw_base.specs.Reading.{◌>>=◌, with_front, Fails}
use Rattle.mw_base.specs.declared.refusal.Refused.{Refused}
use Rattle.mw_base.specs.declared.refusal.Refused.TheVariants.{At, NoMemory}
use Rattle.mw_base.proofs.Lists.{next, regroup}
use Rattle.mw_boardfile.specs.declared.fault.Fault.{Fault}
use Rattle.mw_boardfile.specs.Lists.{first_place, is_refused, none_refused, each_of}
use Rattle.mw_boardfile.specs.Views.{data_of}
use Rattle.mw_boardfile.specs.FlipFlops.{flipflop_at, each_flipflop}
use Rattle.mw_boardfile.specs.declared.fault.KeyFault.{KeyFault}
use Rattle.mw_boardfile.specs.declared.sizes.BoardSizes.{BoardSizes}
use Rattle.mw_board.specs.declared.field.NamedField.{NamedField}
use Rattle.mw_board.specs.declared.flipflop.FlipFlop.{FlipFlop}
use Rattle.mw_board.specs.declared.control.Points.{Points}
use Rattle.mw_board.specs.declared.point.Point.{Point}
use Rattle.mw_board.specs.Points.{name_of}
use Rattle.mw_boardfile.specs.Control.{given_point, each_point}
use Rattle.toml.specs.Data.{Data, Members, get_member}
use Rattle.toml.specs.View.{view, members_view}
use Rattle.mw_boardfile.specs.Fields.{count_of}
use Rattle.toml.specs.declared.value.Value.{Value}

-- ---- the first that passes

pub found : {A : Type 0} (test : A → Bool) (items : List A) (n : ℕ) (item : A) (total : Option ℕ) → n < length items
    → item ≡ get_or items n item → test item ≡ true → first_place test n (drop n items) ≡ total → Some n ≡ total
unfolding first_place
found test items n item total within is passes so_far =
    let one : first_place test n (drop n items) ≡ Some n = rw (next items n item within is, passes) refl in
    sym one ∙ so_far

pub not_yet : {A : Type 0} (test : A → Bool) (items : List A) (n : ℕ) (item : A) (total : Option ℕ)
    → n < length items → item ≡ get_or items n item → test item ≡ false
    → first_place test n (drop n items) ≡ total → first_place test (n + 1) (drop (n + 1) items) ≡ total
unfolding first_place
not_yet test items n item total within is fails so_far =
    let one : first_place test n (drop n items) ≡ first_place test (n + 1) (drop (n + 1) items) =
    rw (next items n item within is, fails) refl in
    sym one ∙ so_far

pub nowhere : {A : Type 0} (test : A → Bool) (items : List A) (n : ℕ) (total : Option ℕ)
    → length items ≤ n → first_place test n (drop n items) ≡ total → None ≡ total
unfolding first_place
nowhere test items n total past so_far =
    let one : first_place test n (drop n items) ≡ None = rw (drop_all n items past) refl in
    sym one ∙ so_far

-- ---- no entry is refused

pub refused : {A : Type 0} (reader : Data → Result A Cause) (cause : Cause) (values : List Value) (n : ℕ)
    (value : Value) (total : Result (Unit {0}) Fault)
    → n < length values → value ≡ get_or values n value → is_refused cause (reader (view value)) ≡ true
    → none_refused reader cause n (data_of (drop n values)) ≡ total
    → Err (record { cause = cause; entry = Some n }) ≡ total
unfolding none_refused
refused reader cause values n value total within is fails so_far =
    let one : none_refused reader cause n (data_of (drop n values)) ≡ Err (record { cause = cause; entry = Some n }) =
    rw (next values n value within is, fails) refl in
    sym one ∙ so_far

pub not_refused : {A : Type 0} (reader : Data → Result A Cause) (cause : Cause) (values : List Value) (n : ℕ)
    (value : Value) (total : Result (Unit {0}) Fault)
    → n < length values → value ≡ get_or values n value → is_refused cause (reader (view value)) ≡ false
    → none_refused reader cause n (data_of (drop n values)) ≡ total
    → none_refused reader cause (n + 1) (data_of (drop (n + 1) values)) ≡ total
unfolding none_refused
not_refused reader cause values n value total within is holds so_far =
    let one : none_refused reader cause n (data_of (drop n values))
    ≡ none_refused reader cause (n + 1) (data_of (drop (n + 1) values)) =
    rw (next values n value within is, holds) refl in
    sym one ∙ so_far

pub all_taken : {A : Type 0} (reader : Data → Result A Cause) (cause : Cause) (values : List Value) (n : ℕ)
    (total : Result (Unit {0}) Fault)
    → length values ≤ n → none_refused reader cause n (data_of (drop n values)) ≡ total → Ok tt ≡ total
unfolding none_refused
all_taken reader cause values n total past so_far =
    let one : none_refused reader cause n (data_of (drop n values)) ≡ Ok tt = rw (drop_all n values past) refl in
    sym one ∙ so_far

-- ---- each entry

pub one_more : {A : Type 0} (reader : Data → Result A Cause) (front : List A) (x : A) (values : List Value) (n : ℕ)
    (value : Value) (total : Result (List A) Fault)
    → n < length values → value ≡ get_or values n value → reader (view value) ≡ Ok x
    → with_front front (each_of reader n (data_of (drop n values))) ≡ total
    → with_front (front ++ x ∷ []) (each_of reader (n + 1) (data_of (drop (n + 1) values))) ≡ total
unfolding each_of
one_more reader front x values n value total within is reads so_far =
    let rest = each_of reader (n + 1) (data_of (drop (n + 1) values)) in
    let one : with_front front (each_of reader n (data_of (drop n values))) ≡ with_front (front ++ x ∷ []) rest =
    rw (next values n value within is, reads) (regroup front x rest) in
    sym one ∙ so_far

pub ends : {A : Type 0} (reader : Data → Result A Cause) (cause : Cause) (front : List A) (values : List Value) (n : ℕ)
    (value : Value) (total : Result (List A) Fault)
    → n < length values → value ≡ get_or values n value → reader (view value) ≡ Err cause
    → with_front front (each_of reader n (data_of (drop n values))) ≡ total
    → total ≡ Err (record { cause = cause; entry = Some n })
unfolding each_of
ends reader cause front values n value total within is fails so_far =
    let one : with_front front (each_of reader n (data_of (drop n values))) ≡ Err (record {
      cause = cause;
      entry = Some n;
    }) = rw (next values n value within is, fails) refl in
    sym so_far ∙ one

pub all_read : {A : Type 0} (reader : Data → Result A Cause) (front : List A) (values : List Value) (n : ℕ)
    (total : Result (List A) Fault)
    → length values ≤ n → with_front front (each_of reader n (data_of (drop n values))) ≡ total → total ≡ Ok front
unfolding each_of
all_read reader front values n total past so_far =
    let one : with_front front (each_of reader n (data_of (drop n values))) ≡ Ok front =
    rw (drop_all n values past) (ap Ok (append-nil front)) in
    sym so_far ∙ one

-- a table has as many members as its map has entries
pub count_of-members : (entries : List (String Global × Value)) → length entries ≡ count_of (members_view entries)
count_of-members [] = refl
count_of-members (first ∷ rest) = ap suc (count_of-members rest) ∙ sym (add-one (count_of (members_view rest)))

-- values and their data are as many
pub length-data_of : (values : List Value) → length (data_of values) ≡ length values
length-data_of [] = refl
length-data_of (first ∷ rest) = ap suc (length-data_of rest)

-- the first of some values whose data passes
pub first_place-data_of : (test : Data → Bool) (n : ℕ) (values : List Value)
    → first_place (λ value. test (view value)) n values ≡ first_place test n (data_of values)
unfolding first_place
first_place-data_of test n [] = refl
first_place-data_of test n (first ∷ rest) =
    ap (cond (test (view first)) (Some n)) (first_place-data_of test (n + 1) rest)

-- a refusal at the first of two steps is one of both
pub fails_at : {A B F : Type 0} (e : Refused F) (read : Result A F) (next : A → Result B F)
    → Fails e read → Fails e (read >>= next)
fails_at NoMemory read next h = tt
fails_at (At fault) read next h = rw h refl

-- ---- each flip-flop

pub flipflop_ends : (sizes : BoardSizes) (fields : List NamedField) (earlier : List FlipFlop) (e : Refused KeyFault)
    (values : List Value) (n : ℕ) (value : Value) (total : Result (List FlipFlop) KeyFault)
    → n < length values → value ≡ get_or values n value
    → Fails e (flipflop_at sizes fields (data_of values) earlier n (view value))
    → each_flipflop sizes fields (data_of values) earlier n (data_of (drop n values)) ≡ total → Fails e total
unfolding each_flipflop
flipflop_ends sizes fields earlier NoMemory values n value total within is fails so_far = tt
flipflop_ends sizes fields earlier (At fault) values n value total within is fails so_far =
    let one : each_flipflop sizes fields (data_of values) earlier n (data_of (drop n values)) ≡ Err fault =
    rw (ap data_of (next values n value within is), fails) refl in
    sym so_far ∙ one

pub flipflop_goes_on : (sizes : BoardSizes) (fields : List NamedField) (earlier : List FlipFlop) (f : FlipFlop)
    (values : List Value) (n : ℕ) (value : Value) (total : Result (List FlipFlop) KeyFault)
    → n < length values → value ≡ get_or values n value
    → flipflop_at sizes fields (data_of values) earlier n (view value) ≡ Ok f
    → each_flipflop sizes fields (data_of values) earlier n (data_of (drop n values)) ≡ total
    → each_flipflop sizes fields (data_of values) (earlier ++ f ∷ []) (n + 1) (data_of (drop (n + 1) values)) ≡ total
unfolding each_flipflop
flipflop_goes_on sizes fields earlier f values n value total within is reads so_far =
    let one : each_flipflop sizes fields (data_of values) earlier n (data_of (drop n values))
    ≡ each_flipflop sizes fields (data_of values) (earlier ++ f ∷ []) (n + 1) (data_of (drop (n + 1) values)) =
    rw (ap data_of (next values n value within is), reads) refl in
    sym one ∙ so_far

pub flipflops_end : (sizes : BoardSizes) (fields : List NamedField) (earlier : List FlipFlop) (values : List Value) (n : ℕ)
    (total : Result (List FlipFlop) KeyFault) → length values ≤ n
    → each_flipflop sizes fields (data_of values) earlier n (data_of (drop n values)) ≡ total → total ≡ Ok earlier
unfolding each_flipflop
flipflops_end sizes fields earlier values n total past so_far =
    let one : each_flipflop sizes fields (data_of values) earlier n (data_of (drop n values)) ≡ Ok earlier =
    rw (ap data_of (drop_all n values past)) refl in
    sym so_far ∙ one

-- ---- each control point

pub point_ends : (fields : List NamedField) (control : Members) (before : Points) (e : Refused KeyFault)
    (points : List Point) (n : ℕ) (point : Point) (total : Result Points KeyFault)
    → n < length points → point ≡ get_or points n point
    → Fails e (given_point fields before point (get_member (name_of point) control))
    → each_point fields control before (drop n points) ≡ total → Fails e total
unfolding each_point
point_ends fields control before NoMemory points n point total within is fails so_far = tt
point_ends fields control before (At fault) points n point total within is fails so_far =
    let one : each_point fields control before (drop n points) ≡ Err fault =
    rw (next points n point within is, fails) refl in
    sym so_far ∙ one

pub point_goes_on : (fields : List NamedField) (control : Members) (before after : Points) (points : List Point) (n : ℕ)
    (point : Point) (total : Result Points KeyFault)
    → n < length points → point ≡ get_or points n point
    → given_point fields before point (get_member (name_of point) control) ≡ Ok after
    → each_point fields control before (drop n points) ≡ total
    → each_point fields control after (drop (n + 1) points) ≡ total
unfolding each_point
point_goes_on fields control before after points n point total within is reads so_far =
    let one : each_point fields control before (drop n points) ≡ each_point fields control after (drop (n + 1) points) =
    rw (next points n point within is, reads) refl in
    sym one ∙ so_far

pub points_end : (fields : List NamedField) (control : Members) (before : Points) (points : List Point) (n : ℕ)
    (total : Result Points KeyFault)
    → length points ≤ n → each_point fields control before (drop n points) ≡ total → total ≡ Ok before
unfolding each_point
points_end fields control before points n total past so_far =
    let one : each_point fields control before (drop n points) ≡ Ok before = rw (drop_all n points past) refl in
    sym so_far ∙ one
