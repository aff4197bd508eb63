-- What the check of a board says of each of its parts.
use Rattle.std.proofs.Common.{◌≡◌, ℕ, ◌+◌, ◌<◌, ◌≤◌, List, [], ◌∷◌, ◌++◌, length, Bool, true, false, nat_lt}
use Rattle.std.proofs.Common.{nat_le}
use Rattle.std.proofs.Common.{Result, Ok, Err, refl, arith}
use Rattle.std.specs.List.{All, AllByRecursion}
use Rattle.std.proofs.lemmas.Bool.Decides.{nat_tests}
use Rattle.std.proofs.lemmas.List.Elements.{All-nil, All-cons, recursion_from_All}
use Rattle.mw_base.specs.declared.cause.Cause.{Cause}
use Rattle.mw_board.specs.declared.control.Control.{Control}
use Rattle.mw_board.specs.declared.field.NamedField.{NamedField}
use Rattle.mw_board.specs.declared.flipflop.FlipFlop.{FlipFlop}
use Rattle.mw_board.specs.declared.parts.BoardParts.{BoardParts}
use Rattle.mw_board.specs.declared.point.Point.{Point}
use Rattle.mw_board.specs.declared.point.Point.TheVariants.{AluSource, AluFunction, AluDestination, AAddress, BAddress}
use Rattle.mw_board.specs.declared.point.Point.TheVariants.{Sequencer, Branch, TestDisable, Polarity, Ci, Rld, MarLoad}
use Rattle.mw_board.specs.declared.point.Point.TheVariants.{IrLoad, MemoryWrite, Out, CarryIn, D, Condition, Link}
use Rattle.mw_board.specs.Check.{Checked, placed, number_16, at_key, at_flipflop, in_list, in_load, each_from}
use Rattle.mw_board.specs.Check.{list_check}
use Rattle.mw_board.specs.Check.{sizes_tests, sizes_check, field_check, fields_check, flipflop_check, flipflops_from}
use Rattle.mw_board.specs.Check.{flipflops_check, point_check, points_check, lists_tests, lists_check, map_check}
use Rattle.mw_board.specs.Check.{check_of}
use Rattle.mw_board.specs.Depth.{depth_of}
use Rattle.mw_board.specs.Keys.{width_key, microword_key, address_key, fill_key, unset_key, vector_key, stack_key}
use Rattle.mw_board.specs.Keys.{fields_key, flipflop_key, name_key, control_key, load_key, first_point_key}
use Rattle.mw_board.specs.Keys.{carry_in_key}
use Rattle.mw_board.specs.Keys.{condition_key, ram_link_key, q_link_key, d_key, map_bits_key, map_entries_key}
use Rattle.mw_board.specs.Points.{all_points, driver_of}
use Rattle.mw_board.specs.Rules.{Verdict, ask, all_of, width_rule, microword_rule, address_rule, word_rule, vector_rule}
use Rattle.mw_board.specs.Rules.{stack_rule, fields_rule, name_rule, field_rule, flipflops_rule, flipflop_name_rule}
use Rattle.mw_board.specs.Rules.{control_rule, driver_rule, DriversKeep, chosen_rule, list_rule, bit_rule}
use Rattle.mw_board.specs.Rules.{carry_in_rule}
use Rattle.mw_board.specs.Rules.{load_rule, d_source_rule, map_bits_rule, map_entry_rule, map_entries_rule}
use Rattle.mw_boardfile.specs.declared.sizes.BoardSizes.{BoardSizes}
use Rattle.mw_boardfile.specs.Kept.{Kept, ListKeeps, SizesKeep, FieldKeeps, FieldsKeep, ListsKeep, MapKeeps}
use Rattle.mw_boardfile.specs.declared.map.BoardMap.{BoardMap}
use Rattle.mw_boardfile.specs.declared.select.BoardLists.{BoardLists}

-- the parts of a board by the keys of its file

abbrev pub sizes_in : BoardParts → BoardSizes
sizes_in p = record {
  width = p.width;
  microword = p.microword;
  address = p.address;
  fill = p.fill;
  unset = p.unset;
  vector = p.vector;
  stack = p.stack;
}

abbrev pub lists_in : BoardParts → BoardLists
lists_in p = record {
  carry_in = p.carry_in;
  condition = p.condition;
  ram_link = p.ram_link;
  q_link = p.q_link;
  d = p.d;
}

abbrev pub map_in : BoardParts → BoardMap
map_in p = record { low = p.map_low; bits = p.map_bits; entries = p.map_entries }

-- of answers without a fault none is a fault
pub all_hold : {F : Type 0} (answers : List (Result (Unit {0}) F)) → all_of answers ≡ Ok tt
    → AllByRecursion (λ (answer : Result (Unit {0}) F). answer ≡ Ok tt) answers
all_hold [] e = tt
all_hold (Ok done ∷ rest) e = (refl, all_hold rest e)
all_hold (Err fault ∷ rest) e = absurd cc

-- what was asked holds
pub asked : (test : Bool) (cause : Cause) → ask test cause ≡ Ok tt → test ≡ true
asked true cause e = refl
asked false cause e = absurd cc

pub asked_below : (n m : ℕ) (cause : Cause) → ask (nat_lt n m) cause ≡ Ok tt → n < m
asked_below n m cause e =
    let h = asked (nat_lt n m) cause e in
    grind (arith, nat_tests)

pub asked_most : (n m : ℕ) (cause : Cause) → ask (nat_le n m) cause ≡ Ok tt → n ≤ m
asked_most n m cause e =
    let h = asked (nat_le n m) cause e in
    grind (arith, nat_tests)

-- a rule that is kept at its place is kept
placed_holds : (row index entry : ℕ) (verdict : Verdict) → placed row index entry verdict ≡ Ok tt → Kept verdict
placed_holds row index entry (Ok done) e = refl
placed_holds row index entry (Err cause) e = absurd cc

at_key_holds : (row : ℕ) (verdict : Verdict) → at_key row verdict ≡ Ok tt → Kept verdict
at_key_holds row verdict e = placed_holds row 0 0 verdict e

in_list_holds : (row n : ℕ) (verdict : Verdict) → in_list row n verdict ≡ Ok tt → Kept verdict
in_list_holds row n verdict e = placed_holds row (number_16 n) 0 verdict e

-- one rule on each entry
each_holds : {A : Type 0} (rule : ℕ → A → Checked) (Is : A → Type 0) → ((n : ℕ) (x : A) → rule n x ≡ Ok tt → Is x)
    → (n : ℕ) (xs : List A) → each_from rule n xs ≡ Ok tt → All Is xs
unfolding each_from
each_holds rule Is holds n [] e = All-nil Is
each_holds rule Is holds n (x ∷ rest) e =
    let both = all_hold (rule n x ∷ each_from rule (n + 1) rest ∷ []) e in
    All-cons Is x rest (holds n x both.0) (each_holds rule Is holds (n + 1) rest both.1.0)

-- a list from which a control chooses
list_holds : {A : Type 0} (place : ℕ → Verdict → Checked)
    → ((n : ℕ) (verdict : Verdict) → place n verdict ≡ Ok tt → Kept verdict)
    → (rule : A → Verdict) (fields : List NamedField) (control : Control) (xs : List A)
    → list_check place fields control rule xs ≡ Ok tt → ListKeeps rule fields control xs
unfolding list_check
list_holds place at rule fields control xs e =
    let parts = all_hold (
    place 0 (chosen_rule control (length xs))
    ∷ each_from (λ n x. place n (rule x)) 0 xs
    ∷ place 0 (list_rule fields control (length xs))
    ∷ []) e in
    record {
      whole = record {
        chosen = at 0 (chosen_rule control (length xs)) parts.0;
        right = at 0 (list_rule fields control (length xs)) parts.1.1.0;
      };
      each = each_holds (λ n x. place n (rule x)) (λ x. Kept (rule x)) (λ n x h. at n (rule x) h) 0 xs parts.1.0;
    }

-- ---- the parts of a board

-- version to stack
sizes_hold : (p : BoardParts) → sizes_check p ≡ Ok tt → SizesKeep (sizes_in p)
unfolding sizes_check
sizes_hold p e =
    let parts = all_hold (sizes_tests p) e in
    record {
      width = at_key_holds width_key (width_rule p.width) parts.0;
      microword = at_key_holds microword_key (microword_rule p.microword) parts.1.0;
      address = at_key_holds address_key (address_rule p.width p.address) parts.1.1.0;
      fill = at_key_holds fill_key (word_rule p.microword p.fill) parts.1.1.1.0;
      unset = at_key_holds unset_key (word_rule p.microword p.unset) parts.1.1.1.1.0;
      vector = at_key_holds vector_key (vector_rule p.vector) parts.1.1.1.1.1.0;
      stack = at_key_holds stack_key (stack_rule p.stack) parts.1.1.1.1.1.1.0;
    }

field_holds : (microword n : ℕ) (f : NamedField) → field_check microword n f ≡ Ok tt → FieldKeeps microword f
field_holds microword n f e =
    let parts = all_hold (
    in_list fields_key n (name_rule f.name)
    ∷ in_list fields_key n (field_rule microword f.field.low f.field.width)
    ∷ []) e in (
      in_list_holds fields_key n (name_rule f.name) parts.0,
      in_list_holds fields_key n (field_rule microword f.field.low f.field.width) parts.1.0,
    )

fields_hold : (p : BoardParts) → fields_check p ≡ Ok tt → FieldsKeep p.microword p.fields
unfolding fields_check
fields_hold p e =
    let parts = all_hold (
    at_key fields_key (fields_rule (length p.fields))
    ∷ each_from (field_check p.microword) 0 p.fields
    ∷ []) e in
    record {
      few = at_key_holds fields_key (fields_rule (length p.fields)) parts.0;
      each = each_holds (field_check p.microword) (FieldKeeps p.microword) (field_holds p.microword) 0 p.fields
          parts.1.0;
    }

-- a flip-flop after the earlier ones
pub record FlipFlopHolds (p : BoardParts) (earlier : List FlipFlop) (f : FlipFlop) : Type 0 where
  pub name : Kept (flipflop_name_rule (depth_of p) earlier f.name)
  pub control : Kept (control_rule p.fields f.control)
  pub load : ListKeeps (load_rule p.width (length p.flipflop)) p.fields f.control f.load

pub flipflop_holds : (p : BoardParts) (earlier : List FlipFlop) (i : ℕ) (f : FlipFlop)
    → flipflop_check p earlier i f ≡ Ok tt → FlipFlopHolds p earlier f
unfolding flipflop_check
flipflop_holds p earlier i f e =
    let rule = load_rule p.width (length p.flipflop) in
    let parts = all_hold (
    at_flipflop name_key i (flipflop_name_rule (depth_of p) earlier f.name)
    ∷ at_flipflop control_key i (control_rule p.fields f.control)
    ∷ list_check (in_load i) p.fields f.control rule f.load
    ∷ []) e in
    record {
      name = placed_holds name_key (number_16 i) 0 (flipflop_name_rule (depth_of p) earlier f.name) parts.0;
      control = placed_holds control_key (number_16 i) 0 (control_rule p.fields f.control) parts.1.0;
      load = list_holds (in_load i) (λ n verdict h. placed_holds load_key (number_16 i) (number_16 n) verdict h)
          rule p.fields f.control f.load parts.1.1.0;
    }

-- the first of some flip-flops, and those after it
pub flipflops_hold : (p : BoardParts) (earlier : List FlipFlop) (i : ℕ) (first : FlipFlop) (rest : List FlipFlop)
    → flipflops_from p earlier i (first ∷ rest) ≡ Ok tt
    → FlipFlopHolds p earlier first × (flipflops_from p (earlier ++ first ∷ []) (i + 1) rest ≡ Ok tt)
unfolding flipflops_from
flipflops_hold p earlier i first rest e =
    let both = all_hold (
    flipflop_check p earlier i first
    ∷ flipflops_from p (earlier ++ first ∷ []) (i + 1) rest
    ∷ []) e in
    (flipflop_holds p earlier i first both.0, both.1.0)

points_hold : (p : BoardParts) → points_check p ≡ Ok tt → DriversKeep p.fields p.control
unfolding points_check
points_hold p e = at
  where
    rule : ℕ → Point → Checked
    rule = point_check p.fields p.control

    Is : Point → Type 0
    Is point = Kept (driver_rule p.fields point (driver_of p.control point))

    each : AllByRecursion Is all_points
    each = recursion_from_All Is all_points
        (each_holds rule Is (λ n point h. at_key_holds (first_point_key + n) _ h) 0 all_points e)

    at : (point : Point) → Is point
    at AluSource = each.0
    at AluFunction = each.1.0
    at AluDestination = each.1.1.0
    at AAddress = each.1.1.1.0
    at BAddress = each.1.1.1.1.0
    at Sequencer = each.1.1.1.1.1.0
    at Branch = each.1.1.1.1.1.1.0
    at TestDisable = each.1.1.1.1.1.1.1.0
    at Polarity = each.1.1.1.1.1.1.1.1.0
    at Ci = each.1.1.1.1.1.1.1.1.1.0
    at Rld = each.1.1.1.1.1.1.1.1.1.1.0
    at MarLoad = each.1.1.1.1.1.1.1.1.1.1.1.0
    at IrLoad = each.1.1.1.1.1.1.1.1.1.1.1.1.0
    at MemoryWrite = each.1.1.1.1.1.1.1.1.1.1.1.1.1.0
    at Out = each.1.1.1.1.1.1.1.1.1.1.1.1.1.1.0
    at CarryIn = each.1.1.1.1.1.1.1.1.1.1.1.1.1.1.1.0
    at D = each.1.1.1.1.1.1.1.1.1.1.1.1.1.1.1.1.0
    at Condition = each.1.1.1.1.1.1.1.1.1.1.1.1.1.1.1.1.1.0
    at Link = each.1.1.1.1.1.1.1.1.1.1.1.1.1.1.1.1.1.1.0

lists_hold : (p : BoardParts) → lists_check p ≡ Ok tt
    → ListsKeep p.width p.fields (length p.flipflop) p.control (lists_in p)
unfolding lists_check
lists_hold p e =
    let parts = all_hold (lists_tests p) e in
    let bit = bit_rule p.width (length p.flipflop) in
    let carry_in = carry_in_rule p.width (length p.flipflop) in
    let source = d_source_rule p.width (length p.fields) (length p.flipflop) in
    record {
      carry_in = list_holds (in_list carry_in_key) (in_list_holds carry_in_key) carry_in p.fields p.control.carry_in
          p.carry_in parts.0;
      condition = list_holds (in_list condition_key) (in_list_holds condition_key) bit p.fields p.control.condition
          p.condition parts.1.0;
      ram_link = list_holds (in_list ram_link_key) (in_list_holds ram_link_key) bit p.fields p.control.link
          p.ram_link parts.1.1.0;
      q_link = list_holds (in_list q_link_key) (in_list_holds q_link_key) bit p.fields p.control.link
          p.q_link parts.1.1.1.0;
      d = list_holds (in_list d_key) (in_list_holds d_key) source p.fields p.control.d p.d parts.1.1.1.1.0;
    }

map_holds : (p : BoardParts) → map_check p ≡ Ok tt → MapKeeps p.width (map_in p)
unfolding map_check
map_holds p e =
    let parts = all_hold (
    at_key map_bits_key (map_bits_rule p.width p.map_low p.map_bits)
    ∷ each_from (λ n entry. in_list map_entries_key n (map_entry_rule entry)) 0 p.map_entries
    ∷ at_key map_entries_key (map_entries_rule p.map_bits (length p.map_entries))
    ∷ []) e in
    record {
      bits = at_key_holds map_bits_key (map_bits_rule p.width p.map_low p.map_bits) parts.0;
      entries = record {
        size = at_key_holds map_entries_key (map_entries_rule p.map_bits (length p.map_entries)) parts.1.1.0;
        each = each_holds (λ n entry. in_list map_entries_key n (map_entry_rule entry))
            (λ entry. Kept (map_entry_rule entry))
            (λ n entry h. in_list_holds map_entries_key n (map_entry_rule entry) h) 0 p.map_entries parts.1.0;
      };
    }

-- what is so of the parts of a board
pub record PartsHold (p : BoardParts) : Type 0 where
  pub sizes : SizesKeep (sizes_in p)
  pub fields : FieldsKeep p.microword p.fields
  pub few : Kept (flipflops_rule (length p.flipflop))
  pub flipflops : flipflops_from p [] 0 p.flipflop ≡ Ok tt
  pub points : DriversKeep p.fields p.control
  pub lists : ListsKeep p.width p.fields (length p.flipflop) p.control (lists_in p)
  pub map : MapKeeps p.width (map_in p)

pub parts_hold : (p : BoardParts) → check_of p ≡ Ok tt → PartsHold p
unfolding check_of flipflops_check
parts_hold p e =
    let parts = all_hold (
    sizes_check p ∷ fields_check p ∷ flipflops_check p ∷ points_check p ∷ lists_check p ∷ map_check p ∷ []) e in
    let flipflops = all_hold (
    at_key flipflop_key (flipflops_rule (length p.flipflop)) ∷ flipflops_from p [] 0 p.flipflop ∷ []) parts.1.1.0 in
    record {
      sizes = sizes_hold p parts.0;
      fields = fields_hold p parts.1.0;
      few = at_key_holds flipflop_key (flipflops_rule (length p.flipflop)) flipflops.0;
      flipflops = flipflops.1.0;
      points = points_hold p parts.1.1.1.0;
      lists = lists_hold p parts.1.1.1.1.0;
      map = map_holds p parts.1.1.1.1.1.0;
    }
