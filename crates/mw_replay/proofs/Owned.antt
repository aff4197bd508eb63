-- Each element of both sides as lines may set it: it is found by its name.
use Rattle.std.proofs.Common.{◌≡◌, ◌≢◌, ℕ, zero, suc, ◌+◌, ◌-◌, ◌<◌, ◌≤◌, ◌^◌, List, [], map, length, slice_get}
use Rattle.std.proofs.Common.{slice_index, slice_index_or, Bool, true, false, cond, ◌==◌, Option, Some, option_map, Ok}
use Rattle.std.proofs.Common.{refl, sym, ap, ◌∙◌, subst, inl, inr, arith}
use Rattle.std.specs.Prelude.{◌&&◌, nat_le, unwrap_or}
use Rattle.std.specs.List.{position_from, range_with_len}
use Rattle.std.specs.Str.{bytes_eq}
use Rattle.std.proofs.lemmas.Bool.{and_parts, cases_lt, le-ltb, lt-ltb}
use Rattle.std.proofs.lemmas.Bool.Decides.{nat_tests}
use Rattle.std.proofs.lemmas.Iterator.Adapters.{position_from-zero}
use Rattle.std.proofs.lemmas.List.FromFn.{get_or-map-range_with_len, length-map-range_with_len}
use Rattle.std.proofs.lemmas.Option.{slice_get-map}
use Rattle.mw_base.specs.Names.{is_name, is_spelled_as_name}
use Rattle.mw_board.specs.Check.{check_of}
use Rattle.mw_board.specs.Elements.{element_count, element_name}
use Rattle.mw_cycle.specs.Boundary.{numbers}
use Rattle.mw_rel.specs.Begin.{Begin, IsBegin}
use Rattle.mw_rel.specs.Completed.{free_before, free_value}
use Rattle.mw_rel.specs.Free.{is_free as is_on_no_left}
use Rattle.mw_rel.specs.Job.{Job, IsJob}
use Rattle.mw_rel.specs.Relation.{Boundary}
use Rattle.mw_rel.proofs.Chosen.{free_words}
use Rattle.mw_rel.proofs.Elements.{widths_count}
use Rattle.mw_sim.specs.declared.settings.Owner.{Owner}
use Rattle.mw_sim.specs.declared.settings.Owner.TheVariants.{Board, Machine}
use Rattle.mw_sim.specs.declared.settings.Settable.{Settable}
use Rattle.mw_sim.specs.Settings.{is_free, number_named, owner_text}
use Rattle.mw_replay.specs.CounterText.{name_of, owner_of, settable, settables_of}
use Rattle.mw_replay.proofs.Names.{Once, all_each, board_count, board_name, board_names, board_once, board_spelled}
use Rattle.mw_replay.proofs.Names.{free_once, other_bytes, same_bytes}
use Rattle.mw_replay.proofs.Sets.{IsSettable}
use Rattle.mw_replay.proofs.Settables.{bound_is, bound_most, numbers_at, width_most}
use Rattle.mw_replay.proofs.Starts.{there}

-- ---- owners and names

board_owns : (job : Job) (e : ℕ) → e < element_count job.board → owner_of job e ≡ Board
board_owns job e below = rw (lt-ltb e (element_count job.board) below) refl

machine_owns : (job : Job) (e : ℕ) → element_count job.board ≤ e → owner_of job e ≡ Machine
machine_owns job e past = rw (le-ltb e (element_count job.board) past) refl

board_named : (job : Job) (e : ℕ) → e < element_count job.board
    → slice_get (board_names job.board) e ≡ Some (name_of job e)
board_named job e below =
    let names = board_names job.board in
    let at : slice_get names e ≡ Some (slice_index_or names e []) =
    there names e [] (omega (arith, board_count job.board)) in
    let name : name_of job e ≡ unwrap_or (element_name job.board e) [] =
    rw (lt-ltb e (element_count job.board) below) refl in
    let same : name_of job e ≡ slice_index_or names e [] =
    name ∙ ap (λ (found : Option (List ℕ)). unwrap_or found []) (board_name job.board e ∙ at) in
    at ∙ ap Some (sym same)

machine_named : (job : Job) (e : ℕ) → element_count job.board ≤ e
    → e - element_count job.board < length job.machine.names
    → slice_get job.machine.names (e - element_count job.board) ≡ Some (name_of job e)
machine_named job e past inside =
    let place = e - element_count job.board in
    let name : name_of job e ≡ slice_index_or job.machine.names place [] =
    rw (le-ltb e (element_count job.board) past) refl in
    there job.machine.names place [] inside ∙ ap Some (sym name)

-- two places of a list without a name twice have two names
pub two_names : (names : List (List ℕ)) (i j : ℕ) (x y : List ℕ) → Once names → i < j → slice_get names i ≡ Some x
    → slice_get names j ≡ Some y → y ≢ x
two_names names i j x y once before one two same = once i j x before one (two ∙ ap Some same)

-- a register's place
register_place : (job : Job) (e : ℕ) → IsJob job → e < length job.relation.shape.widths → element_count job.board ≤ e
    → e - element_count job.board < length job.machine.names
register_place job e is below past = omega (arith, widths_count job is, is.machine.formed.registers)

-- ---- an element is found by its name

-- whether an element is the one with a number
is_it : Job → ℕ → Settable → Bool
is_it job e element = bytes_eq (owner_text (owner_of job e)) (owner_text element.owner)
    && bytes_eq (name_of job e) element.name

both_true : (a b : Bool) → a ≡ true → b ≡ true → (a && b) ≡ true
both_true a b one two = rw (one, two) refl

second_false : (a b : Bool) → b ≡ false → (a && b) ≡ false
second_false true b is = is
second_false false b is = refl

first_false : (a b : Bool) → a ≡ false → (a && b) ≡ false
first_false a b is = rw is refl

it_is : (job : Job) (boundary : Boundary) (e : ℕ) → is_it job e (settable job boundary e) ≡ true
unfolding is_it
it_is job boundary e =
    both_true _ _ (same_bytes (owner_text (owner_of job e))) (same_bytes (name_of job e))

other_owner : (one two : Owner) → one ≡ Machine → two ≡ Board → bytes_eq (owner_text one) (owner_text two) ≡ false
other_owner one two first second = rw (first, second) refl

it_is_not : (job : Job) (boundary : Boundary) (e k : ℕ) → IsJob job → check_of job.board ≡ Ok tt
    → e < length job.relation.shape.widths → k < e → is_it job e (settable job boundary k) ≡ false
unfolding is_it
it_is_not job boundary e k is checked below before = elim (cases_lt e (element_count job.board)) [
  | inl here ↦ second_false _ _ (other_bytes (name_of job e) (name_of job k)
      (two_names (board_names job.board) k e (name_of job k) (name_of job e) (board_once job.board checked) before
      (board_named job k (omega arith)) (board_named job e here)))
  | inr past ↦ elim (cases_lt k (element_count job.board)) [
    | inl there ↦ first_false _ _ (other_owner (owner_of job e) (owner_of job k) (machine_owns job e past)
        (board_owns job k there))
    | inr after ↦ second_false _ _ (other_bytes (name_of job e) (name_of job k)
        (two_names job.machine.names (k - element_count job.board) (e - element_count job.board) (name_of job k)
        (name_of job e) (free_once job.machine.names is.machine.right.names) (omega arith)
        (machine_named job k after (register_place job k is (omega arith) after))
        (machine_named job e past (register_place job e is below past))))
  ]
]

-- the first of some numbers that passes a test
first_of : {A : Type 0} (make : ℕ → A) (test : A → Bool) (from count n : ℕ) → n < count
    → test (make (from + n)) ≡ true → ((k : ℕ) → k < n → test (make (from + k)) ≡ false)
    → position_from test from (map make (numbers from count)) ≡ Some (from + n)
first_of make test from zero n below is others = absurd (omega arith)
first_of make test from (suc count) zero below is others =
    let place : from + 0 ≡ from = omega arith in
    let here : test (make from) ≡ true = subst (λ k. test (make k) ≡ true) place is in
    rw here (ap Some (sym place))
first_of make test from (suc count) (suc n) below is others =
    let first : from + 0 ≡ from = omega arith in
    let place : from + suc n ≡ from + 1 + n = omega arith in
    let here : test (make from) ≡ false = subst (λ k. test (make k) ≡ false) first (others 0 (omega arith)) in
    let later = first_of make test (from + 1) count n (omega arith) (subst (λ k. test (make k) ≡ true) place is)
    (λ k before.
    let next : from + suc k ≡ from + 1 + k = omega arith in
    subst (λ k. test (make k) ≡ false) next (others (suc k) (omega arith))) in
    rw here (later ∙ ap Some (sym place))

found : (job : Job) (boundary : Boundary) (e : ℕ) → IsJob job → check_of job.board ≡ Ok tt
    → e < length job.relation.shape.widths
    → number_named (settables_of job boundary) (owner_text (owner_of job e)) (name_of job e) ≡ Some e
unfolding is_it
found job boundary e is checked below =
    let count = length job.relation.shape.widths in
    let zero_place : 0 + e ≡ e = omega arith in
    position_from-zero (is_it job e) (settables_of job boundary)
    ∙ first_of (settable job boundary) (is_it job e) 0 count e below
    (subst (λ k. is_it job e (settable job boundary k) ≡ true) (sym zero_place) (it_is job boundary e))
    (λ k before.
    let place : k ≡ 0 + k = omega arith in
    subst (λ k. is_it job e (settable job boundary k) ≡ false) place
    (it_is_not job boundary e k is checked below before))
    ∙ ap Some zero_place

-- ---- names

pub spelled_short : (name : List ℕ) → is_name name ≡ true → (is_spelled_as_name name ≡ true) × (length name ≤ 64)
unfolding is_name
spelled_short name is =
    let parts = and_parts (is_spelled_as_name name) (nat_le (length name) 64) is in
    (parts.0, grind (arith, nat_tests, parts.1))

named_well : (job : Job) (e : ℕ) → IsJob job → check_of job.board ≡ Ok tt → e < length job.relation.shape.widths
    → (is_spelled_as_name (name_of job e) ≡ true) × (length (name_of job e) ≤ 64)
named_well job e is checked below = elim (cases_lt e (element_count job.board)) [
  | inl here ↦ spelled_short (name_of job e)
      (board_spelled job.board checked e (name_of job e) (board_named job e here))
  | inr past ↦ (let place = e - element_count job.board in
      let at = machine_named job e past (register_place job e is below past) in
      let short : nat_le (length (name_of job e)) 64 ≡ true =
      all_each (λ (name : List ℕ). nat_le (length name) 64) job.machine.names is.machine.right.lengths place
      (name_of job e) at in (
        all_each is_spelled_as_name job.machine.names is.machine.formed.spelled place (name_of job e) at,
        grind (arith, nat_tests, short),
      ))
]

-- ---- the whole

-- a value that isn't 0 is that of a free element
free_on : (boundary : Boundary) (values : List ℕ) (e : ℕ) (b : Bool) → is_on_no_left boundary e ≡ b
    → (cond b (slice_index values (free_before (is_on_no_left boundary) e)) 0 == 0) ≡ false
    → is_on_no_left boundary e ≡ true
free_on boundary values e true is other = is
free_on boundary values e false is other = absurd cc

settable_at : (job : Job) (boundary : Boundary) (e : ℕ) → e < length job.relation.shape.widths
    → slice_get (settables_of job boundary) e ≡ Some (settable job boundary e)
settable_at job boundary e below =
    let count = length job.relation.shape.widths in
    let place : 0 + e ≡ e = omega arith in
    slice_get-map (settable job boundary) (numbers 0 count) e
    ∙ ap (option_map (settable job boundary)) (numbers_at 0 count e below ∙ ap Some place)

value_below : (job : Job) (boundary : Boundary) (begin : Begin) (e : ℕ) → IsBegin job boundary begin
    → e < length job.relation.shape.widths
    → free_value (is_on_no_left boundary) begin.values e < 2 ^ slice_index job.relation.shape.widths e
value_below job boundary begin e is below =
    let count = length job.relation.shape.widths in
    let value = free_value (is_on_no_left boundary) begin.values in
    let values = map value (range_with_len 0 count) in
    let at : (k : ℕ) → k < count → slice_index values k ≡ value k =
    λ k inside. get_or-map-range_with_len value 0 count k k 0 inside (omega arith) in
    let words = free_words job boundary begin values is (length-map-range_with_len value 0 count) at in
    subst (λ v. v < 2 ^ slice_index job.relation.shape.widths e) (at e below) (words.each e below)

pub is_settable : (job : Job) (boundary : Boundary) (begin : Begin) (e : ℕ) → IsJob job
    → check_of job.board ≡ Ok tt → IsBegin job boundary begin → e < length job.relation.shape.widths
    → IsSettable (owner_of job e) (name_of job e) (settables_of job boundary)
    (free_value (is_on_no_left boundary) begin.values e) e
is_settable job boundary begin e is checked starts below =
    let value = free_value (is_on_no_left boundary) begin.values e in
    let width = slice_index job.relation.shape.widths e in
    let small = value_below job boundary begin e starts below in
    let most : 2 ^ width ≤ 2 ^ 32 = bound_most width (width_most job is e below) in
    let well = named_well job e is checked below in
    record {
      named = found job boundary e is checked below;
      spelled = well.0;
      short = well.1;
      few = omega arith;
      free = λ other.
          ap is_free (settable_at job boundary e below)
          ∙ free_on boundary begin.values e (is_on_no_left boundary e) refl other;
      below = subst (λ bound. value < bound) (sym (bound_is job boundary e below)) small;
    }
