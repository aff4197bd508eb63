-- A file that is printed is shallow, and has no dates.
use Rattle.std.proofs.Common.{◌≡◌, ℕ, suc, ◌≤◌, max, ◌==◌, cond, List, [], ◌∷◌, map, slice_get, Bool, true, false}
use Rattle.std.proofs.Common.{Option, Some, None, refl, arith, Ordering, Less, Equal, Greater, nat_cmp}
use Rattle.std.specs.Prelude.{IfSome}
use Rattle.std.specs.List.{AllByRecursion}
use Rattle.std.specs.Ordering.{match_ordering}
use Rattle.std.specs.Cmp.Lexicographic.{slice_cmp}
use Rattle.std.proofs.lemmas.Bool.{and_parts}
use Rattle.toml.specs.Data.{Data, string, Members, no_members, member}
use Rattle.toml.specs.Data.{depth}
use Rattle.toml.specs.Data.{items_depth, members_depth, has_valid_dates, items_have_valid_dates}
use Rattle.toml.specs.Data.{members_have_valid_dates}
use Rattle.toml.specs.View.{items_of}
use Rattle.mw_board.specs.declared.control.Control.{Control}
use Rattle.mw_board.specs.declared.control.Control.TheVariants.{Field, Fixed}
use Rattle.mw_board.specs.declared.control.Points.{Points}
use Rattle.mw_board.specs.declared.field.NamedField.{NamedField}
use Rattle.mw_board.specs.declared.flipflop.FlipFlop.{FlipFlop}
use Rattle.mw_board.specs.declared.parts.BoardParts.{BoardParts}
use Rattle.mw_board.specs.declared.point.Point.{Point}
use Rattle.mw_board.specs.Points.{all_points, driver_of}
use Rattle.mw_boardfile.specs.Printed.{integer_of, text_of, list_of, unless_empty, field_printed}
use Rattle.mw_boardfile.specs.Printed.{fields_printed}
use Rattle.mw_boardfile.specs.Printed.{field_name, usual_constant, control_printed, driver_printed, point_printed}
use Rattle.mw_boardfile.specs.Printed.{points_printed, list_unless_empty, map_printed, bit_printed, load_printed}
use Rattle.mw_boardfile.specs.Printed.{load_text, flipflop_keys_printed, flipflop_printed}
use Rattle.mw_boardfile.specs.Printed.{source_printed}
use Rattle.mw_boardfile.specs.Printed.{is_alone, list_unless_zero, is_zero_bit, is_zero_source, lists_printed}
use Rattle.mw_boardfile.specs.Printed.{document_printed}
use Rattle.mw_boardfile.specs.Tables.{put, put_given, Entry, table_of}

-- a value of at most so many levels, without dates
pub record IsPlain (levels : ℕ) (value : Data) : Type 0 where
  pub shallow : depth value ≤ levels
  pub dates : has_valid_dates value ≡ true

-- a table of such values
pub record ArePlain (levels : ℕ) (members : Members) : Type 0 where
  pub shallow : members_depth members ≤ levels
  pub dates : members_have_valid_dates members ≡ true

-- a value that is printed, or isn't
abbrev MayBePlain : ℕ → Option Data → Type 0
MayBePlain levels value = IfSome value (IsPlain levels)

text_plain : (levels : ℕ) (text : List ℕ) → IsPlain levels (string text)
text_plain levels text = record { shallow = omega arith; dates = refl }

integer_plain : (levels n : ℕ) → IsPlain levels (integer_of n)
integer_plain levels n = record { shallow = omega arith; dates = refl }

unless_plain : (levels : ℕ) (b : Bool) (value : Data) → IsPlain levels value
    → MayBePlain levels (cond b None (Some value))
unless_plain levels true value is = tt
unless_plain levels false value is = is

-- ---- lists

each_plain : {A : Type 0} (levels : ℕ) (printed : A → Data) → ((x : A) → IsPlain levels (printed x)) → (xs : List A)
    → AllByRecursion (IsPlain levels) (map printed xs)
each_plain levels printed is [] = tt
each_plain levels printed is (x ∷ rest) = (is x, each_plain levels printed is rest)

items_plain : (levels : ℕ) (values : List Data) → AllByRecursion (IsPlain levels) values
    → (items_depth (items_of values) ≤ levels) × (items_have_valid_dates (items_of values) ≡ true)
items_plain levels [] all = (omega arith, refl)
items_plain levels (value ∷ rest) all =
    let others = items_plain levels rest all.1 in
    let here : depth value ≤ levels = all.0.shallow in
    let below : items_depth (items_of rest) ≤ levels = others.0 in
    (omega (arith, here, below), rw (all.0.dates, others.1) refl)

list_plain : (levels : ℕ) (values : List Data) → AllByRecursion (IsPlain levels) values
    → IsPlain (suc levels) (list_of values)
list_plain levels values all =
    let items = items_plain levels values all in
    let shallow : items_depth (items_of values) ≤ levels = items.0 in
    record { shallow = omega (arith, shallow); dates = items.1 }

list_unless_plain : (levels : ℕ) (values : List Data) → AllByRecursion (IsPlain levels) values
    → MayBePlain (suc levels) (list_unless_empty values)
list_unless_plain levels [] all = tt
list_unless_plain levels (value ∷ rest) all = list_plain levels (value ∷ rest) all

-- ---- tables

member_plain : (levels : ℕ) (key : List ℕ) (value : Data) (rest : Members) → IsPlain levels value → ArePlain levels rest
    → ArePlain levels (member key value rest)
member_plain levels key value rest is are =
    let here : depth value ≤ levels = is.shallow in
    let below : members_depth rest ≤ levels = are.shallow in
    record { shallow = omega (arith, here, below); dates = rw (is.dates, are.dates) refl }

parts_plain : (levels : ℕ) (key : List ℕ) (value : Data) (rest : Members) → ArePlain levels (member key value rest)
    → IsPlain levels value × ArePlain levels rest
parts_plain levels key value rest are =
    let both = and_parts (has_valid_dates value) (members_have_valid_dates rest) are.dates in
    let all : max (depth value) (members_depth rest) ≤ levels = are.shallow in
    (record { shallow = omega (arith, all); dates = both.0 }, record { shallow = omega (arith, all); dates = both.1 })

plain_at : (levels : ℕ) (o : Ordering) (a b c : Members) → ArePlain levels a → ArePlain levels b → ArePlain levels c
    → ArePlain levels (match_ordering o a b c)
plain_at levels Less a b c x y z = x
plain_at levels Equal a b c x y z = y
plain_at levels Greater a b c x y z = z

none_plain : (levels : ℕ) → ArePlain levels no_members
none_plain levels = record { shallow = omega arith; dates = refl }

put_plain : (levels : ℕ) (key : List ℕ) (value : Data) (members : Members) → IsPlain levels value
    → ArePlain levels members → ArePlain levels (put key value members)
put_plain levels key value no_members is are = member_plain levels key value no_members is are
put_plain levels key value (member other old rest) is are =
    let both = parts_plain levels other old rest are in
    plain_at levels (slice_cmp nat_cmp key other) _ _ _
    (member_plain levels key value (member other old rest) is are)
    (member_plain levels other value rest is both.1)
    (member_plain levels other old (put key value rest) both.0 (put_plain levels key value rest is both.1))

given_plain : (levels : ℕ) (key : List ℕ) (value : Option Data) (rest : Members) → MayBePlain levels value
    → ArePlain levels rest → ArePlain levels (put_given key value rest)
given_plain levels key None rest is are = are
given_plain levels key (Some value) rest is are = put_plain levels key value rest is are

table_plain : (levels : ℕ) (entries : List Entry) → AllByRecursion (λ (e : Entry). MayBePlain levels e.1) entries
    → ArePlain levels (table_of entries)
unfolding table_of
table_plain levels [] all = none_plain levels
table_plain levels (e ∷ rest) all = given_plain levels e.0 e.1 (table_of rest) all.0 (table_plain levels rest all.1)

under_plain : (levels : ℕ) (members : Members) → ArePlain levels members
    → MayBePlain (suc levels) (unless_empty members)
under_plain levels no_members are = tt
under_plain levels (member key value rest) are =
    let shallow : members_depth (member key value rest) ≤ levels = are.shallow in
    record { shallow = omega (arith, shallow); dates = are.dates }

-- ---- the file

fields_plain : (fields : List NamedField) → ArePlain 2 (fields_printed fields)
fields_plain [] = none_plain 2
fields_plain (f ∷ rest) =
    put_plain 2 f.name (field_printed f) (fields_printed rest)
    (list_plain 1 (integer_of f.field.low ∷ integer_of f.field.width ∷ [])
    (integer_plain 1 f.field.low, (integer_plain 1 f.field.width, tt))) (fields_plain rest)

control_plain : (levels : ℕ) (fields : List NamedField) (control : Control)
    → IsPlain levels (control_printed fields control)
control_plain levels fields (Field n) = text_plain levels (field_name (slice_get fields n))
control_plain levels fields (Fixed value) = integer_plain levels value

driver_plain : (fields : List NamedField) (point : Point) (driver : Control)
    → MayBePlain 2 (driver_printed fields point driver)
driver_plain fields point (Field n) = control_plain 2 fields (Field n)
driver_plain fields point (Fixed value) =
    unless_plain 2 (value == usual_constant point) (integer_of value) (integer_plain 2 value)

points_plain : (fields : List NamedField) (points : Points) (some : List Point)
    → AllByRecursion (λ (e : Entry). MayBePlain 2 e.1) (map (point_printed fields points) some)
points_plain fields points [] = tt
points_plain fields points (point ∷ rest) =
    (driver_plain fields point (driver_of points point), points_plain fields points rest)

flipflop_plain : (fields : List NamedField) (flipflops : List FlipFlop) (f : FlipFlop)
    → IsPlain 2 (flipflop_printed fields flipflops f)
flipflop_plain fields flipflops f =
    let keys = table_plain 1 (flipflop_keys_printed fields flipflops f) (
      text_plain 1 f.name,
      (
        control_plain 1 fields f.control,
        (
          list_plain 0 _
              (each_plain 0 (load_printed flipflops) (λ load. text_plain 0 (load_text flipflops load)) f.load),
          tt,
        ),
      ),
    ) in
    let shallow = keys.shallow in
    record { shallow = omega (arith, shallow); dates = keys.dates }

list_zero_plain : {A : Type 0} (is_zero : A → Bool) (printed : A → Data) → ((x : A) → IsPlain 1 (printed x))
    → (xs : List A) → MayBePlain 2 (list_unless_zero is_zero printed xs)
list_zero_plain is_zero printed is xs =
    unless_plain 2 (is_alone is_zero xs) (list_of (map printed xs)) (list_plain 1 _ (each_plain 1 printed is xs))

-- the file has four levels
pub document_plain : (p : BoardParts) → ArePlain 3 (table_of (document_printed p))
unfolding document_printed
document_plain p =
    let bits = list_zero_plain is_zero_bit (bit_printed p.flipflop) (λ bit. text_plain 1 _) in
    let lists = table_plain 2 (lists_printed p) (
      bits p.carry_in,
      (
        bits p.condition,
        (
          bits p.ram_link,
          (
            bits p.q_link,
            (list_zero_plain is_zero_source (source_printed p.fields p.flipflop) (λ source. text_plain 1 _) p.d, tt),
          ),
        ),
      ),
    ) in
    let map = table_plain 2 (map_printed p) (
      unless_plain 2 (p.map_low == 0) (integer_of p.map_low) (integer_plain 2 p.map_low),
      (
        unless_plain 2 (p.map_bits == 0) (integer_of p.map_bits) (integer_plain 2 p.map_bits),
        (list_unless_plain 1 _ (each_plain 1 integer_of (integer_plain 1) p.map_entries), tt),
      ),
    ) in
    let control = table_plain 2 (points_printed p.fields p.control) (points_plain p.fields p.control all_points) in
    let flipflops =
    list_unless_plain 2 _
    (each_plain 2 (flipflop_printed p.fields p.flipflop) (flipflop_plain p.fields p.flipflop) p.flipflop) in
    table_plain 3 (document_printed p) (
      integer_plain 3 2,
      (
        integer_plain 3 p.width,
        (
          integer_plain 3 p.microword,
          (
            integer_plain 3 p.address,
            (
              text_plain 3 _,
              (
                unless_plain 3 (p.unset == 0) (text_of p.unset) (text_plain 3 _),
                (
                  unless_plain 3 (p.vector == 0) (integer_of p.vector) (integer_plain 3 p.vector),
                  (
                    integer_plain 3 p.stack,
                    (
                      under_plain 2 (fields_printed p.fields) (fields_plain p.fields),
                      (
                        flipflops,
                        (
                          under_plain 2 _ control,
                          (under_plain 2 _ lists, (under_plain 2 _ map, tt)),
                        ),
                      ),
                    ),
                  ),
                ),
              ),
            ),
          ),
        ),
      ),
    )
