-- What is kept by each part of a board file is kept by the board.
use Rattle.std.proofs.Common.{◌≡◌, ℕ, ◌+◌, ◌^◌, ◌<◌, nat_lt, true, arith, List, [], ◌∷◌, ◌++◌, suc, map, length}
use Rattle.std.proofs.Common.{add-one, append_assoc, append-nil, Result, Ok, Err, refl, sym, ap, ◌∙◌, subst}
use Rattle.std.specs.Prelude.{All, IfOk, OnOk}
use Rattle.std.proofs.lemmas.Bool.Decides.{nat_tests}
use Rattle.std.proofs.lemmas.List.{length-map}
use Rattle.std.proofs.lemmas.List.Elements.{All-nil, All-head, All-tail}
use Rattle.std.proofs.lemmas.Nat.{pow_pos}
use Rattle.toml.specs.Data.{Members, no_members, member}
use Rattle.mw_board.specs.declared.control.Control.{Control}
use Rattle.mw_board.specs.declared.field.NamedField.{NamedField}
use Rattle.mw_board.specs.declared.flipflop.FlipFlop.{FlipFlop}
use Rattle.mw_board.specs.declared.parts.BoardParts.{BoardParts}
use Rattle.mw_board.specs.declared.point.Point.TheVariants.{Ci}
use Rattle.mw_board.specs.Check.{Checked, in_list, in_load, point_check, each_from, list_check, field_check}
use Rattle.mw_board.specs.Check.{flipflop_check, flipflops_from, sizes_check, fields_check, flipflops_check}
use Rattle.mw_board.specs.Check.{points_check, lists_check, map_check, check_of}
use Rattle.mw_board.specs.Keys.{carry_in_key, condition_key, ram_link_key, q_link_key, d_key, map_entries_key}
use Rattle.mw_board.specs.Points.{all_points, driver_of, default_points}
use Rattle.mw_board.specs.Rules.{Verdict, all_of, word_rule, chosen_rule, list_rule, fields_rule, flipflops_rule}
use Rattle.mw_board.specs.Rules.{flipflop_name_rule, load_rule, control_rule, point_rule, driver_rule, DriversKeep}
use Rattle.mw_board.specs.Rules.{map_entry_rule}
use Rattle.mw_boardfile.specs.declared.fault.Fault.{Fault}
use Rattle.mw_boardfile.specs.declared.sizes.BoardSizes.{BoardSizes}
use Rattle.mw_boardfile.specs.Fields.{count_of}
use Rattle.mw_boardfile.specs.Kept.{Kept, AreChosen, names_of, FieldKeeps, FieldsKeep, FlipFlopKeeps, FlipFlopsKeep}
use Rattle.mw_boardfile.specs.Kept.{ListKeeps, SizesKeep, ListsKeep, MapKeeps}

-- what holds of the value that was read holds of where it came to
pub of_value : {A F : Type 0} (P : A → Type 0) {read : Result A F} {x : A} → read ≡ Ok x → IfOk read P → P x
of_value P is holds = subst (λ r. IfOk r P) is holds

pub came_keeps : {A F G : Type 0} (P : A → Type 0) (read : Result A F) (result : Result A G)
    → IfOk result (λ x. read ≡ Ok x) → IfOk read P → IfOk result P
came_keeps P read (Ok x) came holds = of_value P came holds
came_keeps P read (Err fault) came holds = tt

-- 0 is a microword
pub zero_fits : (microword : ℕ) → word_rule microword 0 ≡ Ok tt
unfolding word_rule
zero_fits microword =
    let above : 0 < 2 ^ microword = pow_pos microword in
    let test : nat_lt 0 (2 ^ microword) ≡ true = grind (arith, nat_tests, above) in
    rw test refl

-- a list whose rules as a whole are kept
pub chosen_keeps : (fields : List NamedField) (control : Control) (n : ℕ) (result : Result (Unit {0}) Fault)
    → chosen_rule control n ≡ Ok tt
    → IfOk result (λ done. list_rule fields control n ≡ Ok done) → OnOk result (AreChosen fields control n)
chosen_keeps fields control n (Ok done) chosen right = record { chosen = chosen; right = right }
chosen_keeps fields control n (Err fault) chosen right = tt

-- and whose entries keep theirs
pub entries_keep : {A F : Type 0} (rule : A → Verdict) (fields : List NamedField) (control : Control) (n : ℕ)
    (result : Result (List A) F) → AreChosen fields control n → IfOk result (λ xs. length xs ≡ n)
    → IfOk result (λ xs. All (λ x. Kept (rule x)) xs) → IfOk result (ListKeeps rule fields control)
entries_keep rule fields control n (Ok xs) chosen count each = record {
  whole = subst (AreChosen fields control) (sym count) chosen;
  each = each;
}
entries_keep rule fields control n (Err fault) chosen count each = tt

-- two answers without a fault
both_hold : (first second : Checked) → all_of (first ∷ second ∷ []) ≡ Ok tt → (first ≡ Ok tt) × (second ≡ Ok tt)
both_hold (Ok done) (Ok also) e = (refl, refl)
both_hold (Ok done) (Err fault) e = absurd cc
both_hold (Err fault) second e = absurd cc

-- a rule that is kept is no fault of an entry
kept_at : (row n : ℕ) (verdict : Verdict) → Kept verdict → in_list row n verdict ≡ Ok tt
kept_at row n verdict holds = rw holds refl

-- one rule on each entry, which each keeps
each_keeps : {A : Type 0} (rule : ℕ → A → Checked) (Is : A → Type 0)
    → ((n : ℕ) (x : A) → Is x → rule n x ≡ Ok tt) → (n : ℕ) (xs : List A) → All Is xs → each_from rule n xs ≡ Ok tt
unfolding each_from
each_keeps rule Is keeps n [] all = refl
each_keeps rule Is keeps n (x ∷ rest) all =
    let here : rule n x ≡ Ok tt = keeps n x (All-head Is x rest all) in
    let others : each_from rule (n + 1) rest ≡ Ok tt = each_keeps rule Is keeps (n + 1) rest (All-tail Is x rest all) in
    rw (here, others) refl

-- a list, at a place of which a rule that is kept is no fault
pub list_keeps : {A : Type 0} (place : ℕ → Verdict → Checked)
    → ((n : ℕ) (verdict : Verdict) → Kept verdict → place n verdict ≡ Ok tt)
    → (rule : A → Verdict) (fields : List NamedField) (control : Control) (xs : List A)
    → ListKeeps rule fields control xs → list_check place fields control rule xs ≡ Ok tt
unfolding list_check
list_keeps place at rule fields control xs list =
    let each : each_from (λ n x. place n (rule x)) 0 xs ≡ Ok tt =
    each_keeps (λ n x. place n (rule x)) (λ x. Kept (rule x)) (λ n x holds. at n (rule x) holds) 0 xs list.each in
    rw (at 0 _ list.whole.chosen, each, at 0 _ list.whole.right) refl

-- a flip-flop
pub flip_keeps : (sizes : BoardSizes) (fields : List NamedField) (count : ℕ) (earlier : List FlipFlop) (f : FlipFlop)
    → flipflop_name_rule sizes.stack earlier f.name ≡ Ok tt → control_rule fields f.control ≡ Ok tt
    → ListKeeps (load_rule sizes.width count) fields f.control f.load → FlipFlopKeeps sizes fields count earlier f
unfolding flipflop_check
flip_keeps sizes fields count earlier f name control load = λ p i has.
    let loads =
    list_keeps (in_load i) (λ n verdict holds. rw holds refl) (load_rule sizes.width count) fields f.control f.load load in
    rw (has.stack, has.width, has.named, has.count, name, control, loads) refl

-- one more flip-flop
pub flipflop_keeps : (p : BoardParts) (earlier : List FlipFlop) (i : ℕ) (fs : List FlipFlop) (f : FlipFlop)
    → flipflops_from p earlier i fs ≡ Ok tt → ((n : ℕ) → flipflop_check p (earlier ++ fs) n f ≡ Ok tt)
    → flipflops_from p earlier i (fs ++ f ∷ []) ≡ Ok tt
unfolding flipflops_from
flipflop_keeps p earlier i [] f before keeps =
    let here : flipflop_check p earlier i f ≡ Ok tt =
    subst (λ (es : List FlipFlop). flipflop_check p es i f ≡ Ok tt) (append-nil earlier) (keeps i) in
    rw here refl
flipflop_keeps p earlier i (first ∷ rest) f before keeps =
    let both =
    both_hold (flipflop_check p earlier i first) (flipflops_from p (earlier ++ first ∷ []) (i + 1) rest) before in
    let others = flipflop_keeps p (earlier ++ first ∷ []) (i + 1) rest f both.1
    (subst (λ (es : List FlipFlop). (n : ℕ) → flipflop_check p es n f ≡ Ok tt)
    (sym (append_assoc earlier (first ∷ []) rest)) keeps) in
    rw (both.0, others) refl

-- one more flip-flop of each such board
pub flipflops_grow : (sizes : BoardSizes) (fields : List NamedField) (count : ℕ) (fs : List FlipFlop) (f : FlipFlop)
    → FlipFlopsKeep sizes fields count fs → FlipFlopKeeps sizes fields count fs f
    → FlipFlopsKeep sizes fields count (fs ++ f ∷ [])
flipflops_grow sizes fields count fs f before keeps = λ p has.
    flipflop_keeps p [] 0 fs f (before p has) (λ n. keeps p n has)

-- none
pub no_flipflops_keep : (sizes : BoardSizes) (fields : List NamedField) (count : ℕ) → FlipFlopsKeep sizes fields count []
unfolding flipflops_from
no_flipflops_keep sizes fields count = λ p has. refl

-- the names of a table's members are as many as these
names_counted : (table : Members) → length (names_of table) ≡ count_of table
names_counted no_members = refl
names_counted (member name value rest) = ap suc (names_counted rest) ∙ sym (add-one (count_of rest))

-- the fields of a table
pub fields_all : {F : Type 0} (microword : ℕ) (table : Members) (result : Result (List NamedField) F)
    → fields_rule (count_of table) ≡ Ok tt
    → IfOk result (λ fields. map (λ (f : NamedField). f.name) fields ≡ names_of table)
    → IfOk result (λ fields. All (FieldKeeps microword) fields) → IfOk result (FieldsKeep microword)
fields_all microword table (Ok fields) few names each =
    let count : count_of table ≡ length fields =
    sym (names_counted table) ∙ ap length (sym names) ∙ length-map fields (λ (f : NamedField). f.name) in
    record { few = subst (λ n. Kept (fields_rule n)) count few; each = each }
fields_all microword table (Err fault) few names each = tt

-- none
pub no_fields_keep : (microword : ℕ) → FieldsKeep microword []
unfolding fields_rule
no_fields_keep microword = record { few = refl; each = All-nil (FieldKeeps microword) }

-- ---- the parts of a board

pub default_keeps : (fields : List NamedField) → DriversKeep fields default_points
unfolding point_rule control_rule
default_keeps fields Ci = refl
default_keeps fields other = refl

sizes_keep : (p : BoardParts) → SizesKeep (record {
  width = p.width;
  microword = p.microword;
  address = p.address;
  fill = p.fill;
  unset = p.unset;
  vector = p.vector;
  stack = p.stack;
}) → sizes_check p ≡ Ok tt
unfolding sizes_check
sizes_keep p keep = rw (keep.width, keep.microword, keep.address, keep.fill, keep.unset, keep.vector, keep.stack) refl

field_keeps : (microword n : ℕ) (f : NamedField) → FieldKeeps microword f → field_check microword n f ≡ Ok tt
field_keeps microword n f keep = rw (keep.0, keep.1) refl

fields_keep : (p : BoardParts) → FieldsKeep p.microword p.fields → fields_check p ≡ Ok tt
unfolding fields_check
fields_keep p keep =
    let each : each_from (field_check p.microword) 0 p.fields ≡ Ok tt =
    each_keeps (field_check p.microword) (FieldKeeps p.microword) (field_keeps p.microword) 0 p.fields keep.each in
    rw (keep.few, each) refl

flipflops_keep : (p : BoardParts) → Kept (flipflops_rule (length p.flipflop))
    → flipflops_from p [] 0 p.flipflop ≡ Ok tt → flipflops_check p ≡ Ok tt
unfolding flipflops_check
flipflops_keep p few keep = rw (few, keep) refl

points_keep : (p : BoardParts) → DriversKeep p.fields p.control → points_check p ≡ Ok tt
unfolding points_check
points_keep p keep =
    each_keeps (point_check p.fields p.control) (λ point. Kept (driver_rule p.fields point (driver_of p.control point)))
    (λ n point holds. rw holds refl) 0 all_points (λ k d within. keep _)

lists_keep : (p : BoardParts) → ListsKeep p.width p.fields (length p.flipflop) p.control (record {
  carry_in = p.carry_in;
  condition = p.condition;
  ram_link = p.ram_link;
  q_link = p.q_link;
  d = p.d;
}) → lists_check p ≡ Ok tt
unfolding lists_check
lists_keep p keep =
    let at = λ (row n : ℕ) (verdict : Verdict) (holds : Kept verdict). kept_at row n verdict holds in
    let a =
    list_keeps (in_list carry_in_key) (at carry_in_key) _ p.fields p.control.carry_in p.carry_in keep.carry_in in
    let b =
    list_keeps (in_list condition_key) (at condition_key) _ p.fields p.control.condition p.condition keep.condition in
    let c = list_keeps (in_list ram_link_key) (at ram_link_key) _ p.fields p.control.link p.ram_link keep.ram_link in
    let d = list_keeps (in_list q_link_key) (at q_link_key) _ p.fields p.control.link p.q_link keep.q_link in
    let e = list_keeps (in_list d_key) (at d_key) _ p.fields p.control.d p.d keep.d in
    rw (a, b, c, d, e) refl

map_keeps : (p : BoardParts)
    → MapKeeps p.width (record { low = p.map_low; bits = p.map_bits; entries = p.map_entries }) → map_check p ≡ Ok tt
unfolding map_check
map_keeps p keep =
    let each : each_from (λ n entry. in_list map_entries_key n (map_entry_rule entry)) 0 p.map_entries ≡ Ok tt =
    each_keeps (λ n entry. in_list map_entries_key n (map_entry_rule entry)) (λ entry. Kept (map_entry_rule entry))
    (λ n entry holds. rw holds refl) 0 p.map_entries keep.entries.each in
    rw (keep.bits, each, keep.entries.size) refl

-- all of them
pub parts_keep : (p : BoardParts) → SizesKeep (record {
  width = p.width;
  microword = p.microword;
  address = p.address;
  fill = p.fill;
  unset = p.unset;
  vector = p.vector;
  stack = p.stack;
}) → FieldsKeep p.microword p.fields → Kept (flipflops_rule (length p.flipflop))
    → flipflops_from p [] 0 p.flipflop ≡ Ok tt → DriversKeep p.fields p.control
    → ListsKeep p.width p.fields (length p.flipflop) p.control (record {
      carry_in = p.carry_in;
      condition = p.condition;
      ram_link = p.ram_link;
      q_link = p.q_link;
      d = p.d;
    }) → MapKeeps p.width (record { low = p.map_low; bits = p.map_bits; entries = p.map_entries }) → check_of p ≡ Ok tt
unfolding check_of
parts_keep p sizes fields few flipflops points lists map =
    rw (
      sizes_keep p sizes,
      fields_keep p fields,
      flipflops_keep p few flipflops,
      points_keep p points,
      lists_keep p lists,
      map_keeps p map,
    ) refl
