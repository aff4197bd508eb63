-- Parts that break no rule are a board.
use Rattle.std.proofs.Common.{◌≡◌, ℕ, ◌+◌, ◌%◌, ◌^◌, ◌<◌, ◌≤◌, List, [], ◌∷◌, ◌++◌, length, slice_get, Bool, true}
use Rattle.std.proofs.Common.{false, Ok, Err, Option, Some, None, Result, refl, nat_lt, nat_le, ◌&&◌, ◌||◌, ◌==◌, if◌then◌else◌, arith}
use Rattle.std.specs.List.{All, AllByRecursion}
use Rattle.std.proofs.lemmas.Bool.{eqb-true}
use Rattle.std.proofs.lemmas.List.Elements.{All-nil, All-cons, recursion_from_All}
use Rattle.std.proofs.lemmas.Bool.Decides.{nat_tests}
use Rattle.mw_base.specs.declared.cause.Cause.{Cause}
use Rattle.mw_base.specs.declared.cause.Cause.TheVariants.{FieldOutside, SelectTooWide, BadWidth, MapSize, TooMany}
use Rattle.mw_base.specs.declared.cause.Cause.TheVariants.{BadValue}
use Rattle.mw_board.specs.declared.bit.Bit.{Bit}
use Rattle.mw_board.specs.declared.bit.Bit.TheVariants as bits
use Rattle.mw_board.specs.declared.bit.DFrom.{DFrom}
use Rattle.mw_board.specs.declared.bit.DFrom.TheVariants as sources
use Rattle.mw_board.specs.declared.bit.DSource.{DSource}
use Rattle.mw_board.specs.declared.bit.Load.{Load}
use Rattle.mw_board.specs.declared.bit.Load.TheVariants as loads
use Rattle.mw_board.specs.declared.control.Control.{Control}
use Rattle.mw_board.specs.declared.control.Control.TheVariants as controls
use Rattle.mw_board.specs.declared.field.NamedField.{NamedField}
use Rattle.mw_board.specs.declared.flipflop.FlipFlop.{FlipFlop}
use Rattle.mw_board.specs.declared.parts.BoardParts.{BoardParts}
use Rattle.mw_board.specs.declared.point.Point.{Point}
use Rattle.mw_board.specs.Keys.{width_key, microword_key, address_key, fill_key, unset_key, vector_key, stack_key}
use Rattle.mw_board.specs.Keys.{fields_key, flipflop_key, name_key, control_key, load_key, first_point_key, carry_in_key}
use Rattle.mw_board.specs.Keys.{condition_key, ram_link_key, q_link_key, d_key, map_bits_key, map_entries_key}
use Rattle.mw_board.specs.Points.{all_points, driver_of}
use Rattle.mw_board.specs.Rules.{Verdict, ask, all_of, width_rule, microword_rule, address_rule, word_rule, vector_rule}
use Rattle.mw_board.specs.Rules.{stack_rule, fields_rule, name_rule, field_rule, flipflops_rule, flipflop_name_rule, control_rule}
use Rattle.mw_board.specs.Rules.{point_rule, driver_rule, chosen_rule, list_rule, bit_rule, carry_in_rule, load_rule}
use Rattle.mw_board.specs.Rules.{source_rule, mask_rule, d_source_rule, map_bits_rule, map_entry_rule, map_entries_rule}
use Rattle.mw_board.specs.Rules.{width_of, map_size}
use Rattle.mw_board.specs.Check.{Checked, placed, number_16, at_key, at_flipflop, in_list, in_load, each_from}
use Rattle.mw_board.specs.Check.{list_check, sizes_tests, sizes_check, field_check, fields_check, flipflop_check}
use Rattle.mw_board.specs.Check.{flipflops_from, flipflops_check, point_check, points_check, lists_tests, lists_check}
use Rattle.mw_board.specs.Check.{map_check, check_of}
use Rattle.mw_board.specs.Depth.{depth_of}
use Rattle.mw_board.specs.Valid.{AreSizes, IsField, IsControl, IsPoint, ArePoints, IsBit, IsLoad, IsFrom, IsMask}
use Rattle.mw_board.specs.Valid.{IsSource, IsList, IsFlipFlop, AreLists, IsMap, IsBoard}

-- of answers without a fault none is a fault
all_kept : {F : Type 0} (answers : List (Result (Unit {0}) F))
    → all_of answers ≡ Ok tt → AllByRecursion (λ (answer : Result (Unit {0}) F). answer ≡ Ok tt) answers
all_kept [] e = tt
all_kept (Ok done ∷ rest) e = (refl, all_kept rest e)
all_kept (Err fault ∷ rest) e = absurd cc

-- what was asked holds
asked : (test : Bool) (cause : Cause) → ask test cause ≡ Ok tt → test ≡ true
asked true cause e = refl
asked false cause e = absurd cc

-- a rule that is kept at its place is kept
at_place : (row index entry : ℕ) (verdict : Verdict) → placed row index entry verdict ≡ Ok tt → verdict ≡ Ok tt
at_place row index entry (Ok done) e = refl
at_place row index entry (Err cause) e = absurd cc

-- ---- each rule

width_kept : (w : ℕ) → width_rule w ≡ Ok tt → (4 ≤ w) × (w ≤ 32) × (w % 4 ≡ 0)
unfolding width_rule
width_kept w e =
    let h = asked (nat_le 4 w && (nat_le w 32 && (w % 4 == 0))) BadWidth e in
    (grind (arith, nat_tests), grind (arith, nat_tests), grind (arith, nat_tests))

microword_kept : (m : ℕ) → microword_rule m ≡ Ok tt → (1 ≤ m) × (m ≤ 128)
unfolding microword_rule
microword_kept m e =
    let h = asked (nat_le 1 m && nat_le m 128) BadWidth e in
    (grind (arith, nat_tests), grind (arith, nat_tests))

address_kept : (w a : ℕ) → address_rule w a ≡ Ok tt → (1 ≤ a) × (a ≤ w) × (a ≤ 16)
unfolding address_rule
address_kept w a e =
    let h = asked (nat_le 1 a && (nat_le a w && nat_le a 16)) BadWidth e in
    (grind (arith, nat_tests), grind (arith, nat_tests), grind (arith, nat_tests))

word_kept : (m word : ℕ) → word_rule m word ≡ Ok tt → word < 2 ^ m
unfolding word_rule
word_kept m word e =
    let h = asked (nat_lt word (2 ^ m)) BadValue e in
    grind (arith, nat_tests)

vector_kept : (vector : ℕ) → vector_rule vector ≡ Ok tt → vector < 2 ^ 12
unfolding vector_rule
vector_kept vector e =
    let h = asked (nat_lt vector 4096) BadValue e in
    grind (arith, nat_tests)

-- a stack that keeps its rule is as deep as it says
pub stack_kept : (p : BoardParts) → stack_rule p.stack ≡ Ok tt → p.stack ≡ depth_of p
unfolding stack_rule depth_of
stack_kept p e = five_or_nine (p.stack == 5) (p.stack == 9) refl refl (asked (p.stack == 5 || p.stack == 9) BadValue e)
  where
    five_or_nine : (five nine : Bool) → (p.stack == 5) ≡ five → (p.stack == 9) ≡ nine → (five || nine) ≡ true
        → p.stack ≡ (if nine then 9 else 5)
    five_or_nine five true one other either = eqb-true p.stack 9 other
    five_or_nine true false one other either = eqb-true p.stack 5 one
    five_or_nine false false one other either = absurd cc

fields_kept : (count : ℕ) → fields_rule count ≡ Ok tt → count ≤ 64
unfolding fields_rule
fields_kept count e =
    let h = asked (nat_le count 64) TooMany e in
    grind (arith, nat_tests)

field_kept : (m : ℕ) (f : NamedField) → field_rule m f.field.low f.field.width ≡ Ok tt → IsField m f
unfolding field_rule
field_kept m f e =
    let kept = all_kept (ask (nat_le 1 f.field.width && nat_le f.field.width 32) BadWidth
    ∷ ask (nat_le (f.field.low + f.field.width) m) FieldOutside ∷ []) e in
    let h = asked (nat_le 1 f.field.width && nat_le f.field.width 32) BadWidth kept.0 in
    let g = asked (nat_le (f.field.low + f.field.width) m) FieldOutside kept.1.0 in
    record { some = grind (arith, nat_tests); most = grind (arith, nat_tests); within = grind (arith, nat_tests) }

flipflops_kept : (count : ℕ) → flipflops_rule count ≡ Ok tt → count ≤ 16
unfolding flipflops_rule
flipflops_kept count e =
    let h = asked (nat_le count 16) TooMany e in
    grind (arith, nat_tests)

control_kept : (fields : List NamedField) (control : Control)
    → control_rule fields control ≡ Ok tt → IsControl fields control
unfolding control_rule
control_kept fields (controls.Field n) e =
    let h = asked (nat_lt n (length fields)) BadValue e in
    grind (arith, nat_tests)
control_kept fields (controls.Fixed value) e = tt

point_kept : (bits : ℕ) (fields : List NamedField) (control : Control)
    → point_rule bits fields control ≡ Ok tt → IsPoint bits fields control
unfolding point_rule
point_kept bits fields (controls.Field n) e =
    let kept = all_kept (ask (nat_lt n (length fields)) BadValue
    ∷ ask (nat_le (width_of (slice_get fields n)) bits) SelectTooWide ∷ []) e in
    let h = asked (nat_lt n (length fields)) BadValue kept.0 in
    let g = asked (nat_le (width_of (slice_get fields n)) bits) SelectTooWide kept.1.0 in
    (grind (arith, nat_tests, h), grind (arith, nat_tests, g))
point_kept bits fields (controls.Fixed value) e =
    let h = asked (nat_lt value (2 ^ bits)) BadValue e in
    grind (arith, nat_tests)

chosen_kept : (control : Control) (entries : ℕ) → chosen_rule control entries ≡ Ok tt → 1 ≤ entries
unfolding chosen_rule
chosen_kept (controls.Field n) entries e =
    let h = asked (nat_lt 0 entries) BadValue e in
    grind (arith, nat_tests)
chosen_kept (controls.Fixed value) entries e =
    let h = asked (nat_lt value entries) BadValue e in
    grind (arith, nat_tests)

list_kept : (fields : List NamedField) (control : Control) (entries : ℕ)
    → list_rule fields control entries ≡ Ok tt → entries ≤ 64
unfolding list_rule
list_kept fields (controls.Field n) entries e =
    let kept = all_kept
    (ask (nat_le entries (2 ^ width_of (slice_get fields n))) SelectTooWide ∷ ask (nat_le entries 64) TooMany ∷ []) e in
    let h = asked (nat_le entries 64) TooMany kept.1.0 in
    grind (arith, nat_tests, h)
list_kept fields (controls.Fixed value) entries e =
    let h = asked (nat_le entries 64) TooMany e in
    grind (arith, nat_tests)

bit_kept : (width flipflops : ℕ) (bit : Bit) → bit_rule width flipflops bit ≡ Ok tt → IsBit width flipflops bit
unfolding bit_rule
bit_kept width flipflops (bits.Ir n) e =
    let h = asked (nat_lt n width) BadValue e in
    grind (arith, nat_tests)
bit_kept width flipflops (bits.Flip n) e =
    let h = asked (nat_lt n flipflops) BadValue e in
    grind (arith, nat_tests)
bit_kept width flipflops other e = tt

carry_in_kept : (width flipflops : ℕ) (bit : Bit)
    → carry_in_rule width flipflops bit ≡ Ok tt → IsBit width flipflops bit
unfolding carry_in_rule
carry_in_kept width flipflops (bits.Ir n) e = bit_kept width flipflops (bits.Ir n) e
carry_in_kept width flipflops (bits.Flip n) e = bit_kept width flipflops (bits.Flip n) e
carry_in_kept width flipflops other e = tt

load_kept : (width flipflops : ℕ) (load : Load) → load_rule width flipflops load ≡ Ok tt → IsLoad width flipflops load
unfolding load_rule
load_kept width flipflops (loads.Take bit) e = bit_kept width flipflops bit e
load_kept width flipflops other e = tt

from_kept : (fields flipflops : ℕ) (from : DFrom)
    → source_rule fields flipflops from ≡ Ok tt → IsFrom fields flipflops from
unfolding source_rule
from_kept fields flipflops (sources.Field n) e =
    let h = asked (nat_lt n fields) BadValue e in
    grind (arith, nat_tests)
from_kept fields flipflops (sources.Flip n) e =
    let h = asked (nat_lt n flipflops) BadValue e in
    grind (arith, nat_tests)
from_kept fields flipflops other e = tt

mask_kept : (width : ℕ) (mask : Option ℕ) → mask_rule width mask ≡ Ok tt → IsMask width mask
unfolding mask_rule
mask_kept width None e = tt
mask_kept width (Some mask) e =
    let h = asked (nat_lt mask (2 ^ width)) BadValue e in
    grind (arith, nat_tests)

source_kept : (width fields flipflops : ℕ) (source : DSource)
    → d_source_rule width fields flipflops source ≡ Ok tt → IsSource width fields flipflops source
unfolding d_source_rule
source_kept width fields flipflops source e =
    let kept = all_kept (source_rule fields flipflops source.from ∷ mask_rule width source.mask ∷ []) e in
    record { from = from_kept fields flipflops source.from kept.0; mask = mask_kept width source.mask kept.1.0 }

map_bits_kept : (width low bits : ℕ) → map_bits_rule width low bits ≡ Ok tt → (bits ≤ 8) × (low + bits ≤ width)
unfolding map_bits_rule
map_bits_kept width low bits e =
    let h = asked (nat_le bits 8 && nat_le (low + bits) width) MapSize e in
    (grind (arith, nat_tests), grind (arith, nat_tests))

map_entry_kept : (entry : ℕ) → map_entry_rule entry ≡ Ok tt → entry < 2 ^ 12
unfolding map_entry_rule
map_entry_kept entry e =
    let h = asked (nat_lt entry 4096) BadValue e in
    grind (arith, nat_tests)

map_entries_kept : (bits entries : ℕ) → map_entries_rule bits entries ≡ Ok tt → entries ≡ map_size bits
unfolding map_entries_rule
map_entries_kept bits entries e = eqb-true entries (map_size bits) (asked (entries == map_size bits) MapSize e)

-- ---- the keys

sizes_are : (p : BoardParts) → sizes_check p ≡ Ok tt → AreSizes p
unfolding sizes_check
sizes_are p e =
    let kept = all_kept (sizes_tests p) e in
    let width = width_kept p.width (at_place width_key 0 0 (width_rule p.width) kept.0) in
    let microword = microword_kept p.microword (at_place microword_key 0 0 (microword_rule p.microword) kept.1.0) in
    let address =
    address_kept p.width p.address (at_place address_key 0 0 (address_rule p.width p.address) kept.1.1.0) in
    record {
      least = width.0;
      most = width.1;
      slices = width.2;
      microword_some = microword.0;
      microword_most = microword.1;
      address_some = address.0;
      address_within = address.1;
      address_most = address.2;
      fill = word_kept p.microword p.fill (at_place fill_key 0 0 (word_rule p.microword p.fill) kept.1.1.1.0);
      unset = word_kept p.microword p.unset (at_place unset_key 0 0 (word_rule p.microword p.unset) kept.1.1.1.1.0);
      vector = vector_kept p.vector (at_place vector_key 0 0 (vector_rule p.vector) kept.1.1.1.1.1.0);
      stack = stack_kept p (at_place stack_key 0 0 (stack_rule p.stack) kept.1.1.1.1.1.1.0);
    }

-- one rule on each entry, which makes each what it is
each_kept : {A : Type 0} (rule : ℕ → A → Checked) (Is : A → Type 0)
    → ((n : ℕ) (x : A) → rule n x ≡ Ok tt → Is x) → (n : ℕ) (xs : List A) → each_from rule n xs ≡ Ok tt → All Is xs
unfolding each_from
each_kept rule Is keeps n [] e = All-nil Is
each_kept rule Is keeps n (x ∷ rest) e =
    let kept = all_kept (rule n x ∷ each_from rule (n + 1) rest ∷ []) e in
    All-cons Is x rest (keeps n x kept.0) (each_kept rule Is keeps (n + 1) rest kept.1.0)

one_field : (m n : ℕ) (f : NamedField) → field_check m n f ≡ Ok tt → IsField m f
one_field m n f e =
    let kept = all_kept
    (in_list fields_key n (name_rule f.name) ∷ in_list fields_key n (field_rule m f.field.low f.field.width) ∷ []) e in
    field_kept m f (at_place fields_key (number_16 n) 0 (field_rule m f.field.low f.field.width) kept.1.0)

-- a list from which a control chooses
list_is : {A : Type 0} (Is : A → Type 0) (place : ℕ → Verdict → Checked)
    → ((n : ℕ) (verdict : Verdict) → place n verdict ≡ Ok tt → verdict ≡ Ok tt)
    → (fields : List NamedField) (control : Control) (rule : A → Verdict) → ((x : A) → rule x ≡ Ok tt → Is x)
    → (xs : List A) → control_rule fields control ≡ Ok tt → list_check place fields control rule xs ≡ Ok tt
    → IsList Is fields control xs
unfolding list_check
list_is Is place at fields control rule keeps xs chooser e =
    let kept = all_kept (place 0 (chosen_rule control (length xs)) ∷ each_from (λ n x. place n (rule x)) 0 xs
    ∷ place 0 (list_rule fields control (length xs)) ∷ []) e in
    record {
      chooser = control_kept fields control chooser;
      some = chosen_kept control (length xs) (at 0 (chosen_rule control (length xs)) kept.0);
      few = list_kept fields control (length xs) (at 0 (list_rule fields control (length xs)) kept.1.1.0);
      entries = each_kept (λ n x. place n (rule x)) Is (λ n x h. keeps x (at n (rule x) h)) 0 xs kept.1.0;
    }

flipflop_is : (p : BoardParts) (earlier : List FlipFlop) (i : ℕ) (f : FlipFlop)
    → flipflop_check p earlier i f ≡ Ok tt → IsFlipFlop p f
unfolding flipflop_check
flipflop_is p earlier i f e =
    let kept = all_kept (at_flipflop name_key i (flipflop_name_rule (depth_of p) earlier f.name)
    ∷ at_flipflop control_key i (control_rule p.fields f.control)
    ∷ list_check (in_load i) p.fields f.control (load_rule p.width (length p.flipflop)) f.load ∷ []) e in
    list_is (IsLoad p.width (length p.flipflop)) (in_load i)
    (λ n verdict h. at_place load_key (number_16 i) (number_16 n) verdict h) p.fields f.control
    (load_rule p.width (length p.flipflop)) (load_kept p.width (length p.flipflop)) f.load
    (at_place control_key (number_16 i) 0 (control_rule p.fields f.control) kept.1.0) kept.1.1.0

flipflops_are : (p : BoardParts) (earlier : List FlipFlop) (i : ℕ) (fs : List FlipFlop)
    → flipflops_from p earlier i fs ≡ Ok tt → All (IsFlipFlop p) fs
unfolding flipflops_from
flipflops_are p earlier i [] e = All-nil (IsFlipFlop p)
flipflops_are p earlier i (f ∷ rest) e =
    let kept = all_kept
    (flipflop_check p earlier i f ∷ flipflops_from p (earlier ++ f ∷ []) (i + 1) rest ∷ []) e in
    All-cons (IsFlipFlop p) f rest (flipflop_is p earlier i f kept.0)
    (flipflops_are p (earlier ++ f ∷ []) (i + 1) rest kept.1.0)

-- what drives each point keeps the rule
drivers_kept : (p : BoardParts) → points_check p ≡ Ok tt
    → AllByRecursion (λ point. driver_rule p.fields point (driver_of p.control point) ≡ Ok tt) all_points
unfolding points_check
drivers_kept p e =
    let keeps = λ (point : Point). driver_rule p.fields point (driver_of p.control point) ≡ Ok tt in
    recursion_from_All keeps all_points (each_kept (point_check p.fields p.control) keeps
    (λ n point h. at_place (first_point_key + n) 0 0 (driver_rule p.fields point (driver_of p.control point)) h)
    0 all_points e)

points_are : (p : BoardParts) → points_check p ≡ Ok tt → ArePoints p.fields p.control
points_are p e =
    let kept = drivers_kept p e in
    record {
      alu_source = point_kept 3 p.fields p.control.alu_source kept.0;
      alu_function = point_kept 3 p.fields p.control.alu_function kept.1.0;
      alu_destination = point_kept 3 p.fields p.control.alu_destination kept.1.1.0;
      a_address = point_kept 4 p.fields p.control.a_address kept.1.1.1.0;
      b_address = point_kept 4 p.fields p.control.b_address kept.1.1.1.1.0;
      sequencer = point_kept 4 p.fields p.control.sequencer kept.1.1.1.1.1.0;
      branch = point_kept 12 p.fields p.control.branch kept.1.1.1.1.1.1.0;
      test_disable = point_kept 1 p.fields p.control.test_disable kept.1.1.1.1.1.1.1.0;
      polarity = point_kept 1 p.fields p.control.polarity kept.1.1.1.1.1.1.1.1.0;
      ci = point_kept 1 p.fields p.control.ci kept.1.1.1.1.1.1.1.1.1.0;
      rld = point_kept 1 p.fields p.control.rld kept.1.1.1.1.1.1.1.1.1.1.0;
      mar_load = point_kept 1 p.fields p.control.mar_load kept.1.1.1.1.1.1.1.1.1.1.1.0;
      ir_load = point_kept 1 p.fields p.control.ir_load kept.1.1.1.1.1.1.1.1.1.1.1.1.0;
      memory_write = point_kept 1 p.fields p.control.memory_write kept.1.1.1.1.1.1.1.1.1.1.1.1.1.0;
      out = point_kept 1 p.fields p.control.out kept.1.1.1.1.1.1.1.1.1.1.1.1.1.1.0;
    }

lists_are : (p : BoardParts) → points_check p ≡ Ok tt → lists_check p ≡ Ok tt → AreLists p
unfolding lists_check
lists_are p points e =
    let choosers = (drivers_kept p points).1.1.1.1.1.1.1.1.1.1.1.1.1.1.1 in
    let kept = all_kept (lists_tests p) e in
    let at = λ (row n : ℕ) (verdict : Verdict) (h : in_list row n verdict ≡ Ok tt).
    at_place row (number_16 n) 0 verdict h in
    let link = choosers.1.1.1.0 in
    record {
      carry_in = list_is (IsBit p.width (length p.flipflop)) (in_list carry_in_key)
          (at carry_in_key) p.fields p.control.carry_in (carry_in_rule p.width (length p.flipflop))
          (carry_in_kept p.width (length p.flipflop)) p.carry_in choosers.0 kept.0;
      condition = list_is (IsBit p.width (length p.flipflop)) (in_list condition_key)
          (at condition_key) p.fields p.control.condition (bit_rule p.width (length p.flipflop))
          (bit_kept p.width (length p.flipflop)) p.condition choosers.1.1.0 kept.1.0;
      ram_link =
          list_is (IsBit p.width (length p.flipflop)) (in_list ram_link_key) (at ram_link_key) p.fields p.control.link
          (bit_rule p.width (length p.flipflop)) (bit_kept p.width (length p.flipflop)) p.ram_link link kept.1.1.0;
      q_link = list_is (IsBit p.width (length p.flipflop)) (in_list q_link_key) (at q_link_key) p.fields p.control.link
          (bit_rule p.width (length p.flipflop)) (bit_kept p.width (length p.flipflop)) p.q_link link kept.1.1.1.0;
      d = list_is (IsSource p.width (length p.fields) (length p.flipflop)) (in_list d_key)
          (at d_key) p.fields p.control.d (d_source_rule p.width (length p.fields) (length p.flipflop))
          (source_kept p.width (length p.fields) (length p.flipflop)) p.d choosers.1.0 kept.1.1.1.1.0;
    }

map_is : (p : BoardParts) → map_check p ≡ Ok tt → IsMap p
unfolding map_check
map_is p e =
    let kept = all_kept (at_key map_bits_key (map_bits_rule p.width p.map_low p.map_bits)
    ∷ each_from (λ n entry. in_list map_entries_key n (map_entry_rule entry)) 0 p.map_entries
    ∷ at_key map_entries_key (map_entries_rule p.map_bits (length p.map_entries)) ∷ []) e in
    let bits = map_bits_kept p.width p.map_low p.map_bits
    (at_place map_bits_key 0 0 (map_bits_rule p.width p.map_low p.map_bits) kept.0) in
    record {
      most = bits.0;
      within = bits.1;
      size = map_entries_kept p.map_bits (length p.map_entries)
          (at_place map_entries_key 0 0 (map_entries_rule p.map_bits (length p.map_entries)) kept.1.1.0);
      entries = each_kept (λ n entry. in_list map_entries_key n (map_entry_rule entry)) (λ entry. entry < 2 ^ 12)
          (λ n entry h. map_entry_kept entry (at_place map_entries_key (number_16 n) 0 (map_entry_rule entry) h))
          0 p.map_entries kept.1.0;
    }

-- parts that break no rule are a board
pub is_board : (p : BoardParts) → check_of p ≡ Ok tt → IsBoard p
unfolding check_of fields_check flipflops_check
is_board p e =
    let kept = all_kept
    (sizes_check p ∷ fields_check p ∷ flipflops_check p ∷ points_check p ∷ lists_check p ∷ map_check p ∷ []) e in
    let fields =
    all_kept (at_key fields_key (fields_rule (length p.fields)) ∷ each_from (field_check p.microword) 0 p.fields ∷ [])
    kept.1.0 in
    let flipflops = all_kept (at_key flipflop_key (flipflops_rule (length p.flipflop))
    ∷ flipflops_from p [] 0 p.flipflop ∷ []) kept.1.1.0 in
    record {
      sizes = sizes_are p kept.0;
      few_fields = fields_kept (length p.fields) (at_place fields_key 0 0 (fields_rule (length p.fields)) fields.0);
      fields = each_kept (field_check p.microword) (IsField p.microword) (one_field p.microword) 0 p.fields fields.1.0;
      few_flipflops = flipflops_kept (length p.flipflop)
          (at_place flipflop_key 0 0 (flipflops_rule (length p.flipflop)) flipflops.0);
      flipflops = flipflops_are p [] 0 p.flipflop flipflops.1.0;
      points = points_are p kept.1.1.1.0;
      lists = lists_are p kept.1.1.1.0 kept.1.1.1.1.0;
      map = map_is p kept.1.1.1.1.1.0;
    }
