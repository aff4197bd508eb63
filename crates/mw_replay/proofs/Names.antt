-- The names of the elements of both sides: each is spelled as one, and none stands twice on one side.
use Rattle.std.proofs.Common.{◌≡◌, ◌≢◌, ℕ, zero, suc, ◌+◌, ◌<◌, List, [], ◌∷◌, ◌++◌, map, length, slice_get, Bool, true}
use Rattle.std.proofs.Common.{false, not, Some, Result, Ok, Err, length-append, refl, sym, ap, ◌∙◌, subst, arith, inl, inr}
use Rattle.std.specs.Prelude.{◌&&◌, ◌||◌}
use Rattle.std.specs.List.{list_all, list_any}
use Rattle.std.specs.Str.{bytes_eq}
use Rattle.std.proofs.lemmas.Bool.{and_parts}
use Rattle.std.proofs.lemmas.List.{length-map}
use Rattle.std.proofs.lemmas.List.Folds.{list_any-append}
use Rattle.std.proofs.lemmas.Slice.Eq.{bytes_eq-Decides}
use Rattle.mw_base.specs.declared.cause.Cause.{Cause}
use Rattle.mw_base.specs.declared.cause.Cause.TheVariants.{BadValue, Twice}
use Rattle.mw_base.specs.Names.{is_name}
use Rattle.mw_board.specs.declared.flipflop.FlipFlop.{FlipFlop}
use Rattle.mw_board.specs.declared.parts.BoardParts.{BoardParts}
use Rattle.mw_board.specs.Check.{at_flipflop, at_key, check_of, fields_check, flipflop_check, flipflops_check}
use Rattle.mw_board.specs.Check.{flipflops_from, in_load, list_check, lists_check, map_check, number_16, placed}
use Rattle.mw_board.specs.Check.{points_check, sizes_check}
use Rattle.mw_board.specs.Depth.{depth_of}
use Rattle.mw_board.specs.Elements.{element_count, element_name, is_reserved, names_before, names_behind}
use Rattle.mw_board.specs.Elements.{names_behind_of, stack_pointer_name}
use Rattle.mw_board.specs.Keys.{control_key, flipflop_key, name_key}
use Rattle.mw_board.specs.Rules.{Verdict, all_of, ask, control_rule, flipflop_name_rule, flipflops_rule}
use Rattle.mw_board.specs.Rules.{is_flipflop_name, load_rule}
use Rattle.mw_board.proofs.Elements.{count_is, depth_known, name_is}
use Rattle.mw_macro.specs.Rules.{are_free, is_reserved as is_keyword}

-- ---- lists of names

-- no name stands twice
abbrev pub Once : List (List ℕ) → Type 0
Once names = (i j : ℕ) (name : List ℕ) → i < j → slice_get names i ≡ Some name → slice_get names j ≢ Some name

pub same_bytes : (x : List ℕ) → bytes_eq x x ≡ true
same_bytes x = (bytes_eq-Decides x x).1 refl

other_on : (x y : List ℕ) (b : Bool) → bytes_eq x y ≡ b → x ≢ y → bytes_eq x y ≡ false
other_on x y true is other = absurd (other ((bytes_eq-Decides x y).0 is))
other_on x y false is other = is

pub other_bytes : (x y : List ℕ) → x ≢ y → bytes_eq x y ≡ false
other_bytes x y other = other_on x y (bytes_eq x y) refl other

not_true : (b : Bool) → not b ≡ true → b ≡ false
not_true true is = absurd cc
not_true false is = refl

or_none : (a b : Bool) → (a || b) ≡ false → (a ≡ false) × (b ≡ false)
or_none true b is = absurd cc
or_none false b is = (refl, is)

some_same : (x y : List ℕ) → Some x ≡ Some y → x ≡ y
some_same x y is = cc

-- a name that no test finds
nowhere : (names : List (List ℕ)) (name : List ℕ) → list_any (bytes_eq name) names ≡ false → (i : ℕ)
    → slice_get names i ≢ Some name
nowhere [] name none i at = cc
nowhere (x ∷ rest) name none zero at =
    let first = or_none (bytes_eq name x) (list_any (bytes_eq name) rest) none in
    let same : bytes_eq name x ≡ true = subst (λ (y : List ℕ). bytes_eq name y ≡ true) (sym (some_same x name at))
    (same_bytes name) in
    let other = first.0 in
    cc
nowhere (x ∷ rest) name none (suc i) at =
    nowhere rest name (or_none (bytes_eq name x) (list_any (bytes_eq name) rest) none).1 i at

pub free_once : (names : List (List ℕ)) → are_free names ≡ true → Once names
free_once [] free i j name before one two = absurd cc
free_once (x ∷ rest) free i zero name before one two = absurd (omega arith)
free_once (x ∷ rest) free zero (suc j) name before one two =
    let parts = and_parts (not (list_any (bytes_eq x) rest)) (are_free rest)
    (and_parts (not (is_keyword x)) (not (list_any (bytes_eq x) rest) && are_free rest) free).1 in
    nowhere rest x (not_true (list_any (bytes_eq x) rest) parts.0) j
    (subst (λ (y : List ℕ). slice_get rest j ≡ Some y) (sym (some_same x name one)) two)
free_once (x ∷ rest) free (suc i) (suc j) name before one two =
    let parts = and_parts (not (list_any (bytes_eq x) rest)) (are_free rest)
    (and_parts (not (is_keyword x)) (not (list_any (bytes_eq x) rest) && are_free rest) free).1 in
    free_once rest parts.1 i j name (omega arith) one two

-- each name passes a test
abbrev pub Each : (List ℕ → Bool) → List (List ℕ) → Type 0
Each test names = (i : ℕ) (name : List ℕ) → slice_get names i ≡ Some name → test name ≡ true

pub all_each : (test : List ℕ → Bool) (names : List (List ℕ)) → list_all test names ≡ true → Each test names
all_each test [] all i name at = absurd cc
all_each test (x ∷ rest) all zero name at =
    subst (λ (y : List ℕ). test y ≡ true) (some_same x name at) (and_parts (test x) (list_all test rest) all).0
all_each test (x ∷ rest) all (suc i) name at =
    all_each test rest (and_parts (test x) (list_all test rest) all).1 i name at

each_both : (test : List ℕ → Bool) (xs ys : List (List ℕ)) → Each test xs → Each test ys → Each test (xs ++ ys)
each_both test [] ys one two i name at = two i name at
each_both test (x ∷ xs) ys one two zero name at = one zero name at
each_both test (x ∷ xs) ys one two (suc i) name at = each_both test xs ys (λ k. one (suc k)) two i name at

-- no name of one list stands in the other
abbrev Apart : List (List ℕ) → List (List ℕ) → Type 0
Apart xs ys = (i j : ℕ) (name : List ℕ) → slice_get xs i ≡ Some name → slice_get ys j ≢ Some name

within_both : (xs ys : List (List ℕ)) (name : List ℕ) → ((i : ℕ) → slice_get xs i ≢ Some name)
    → ((j : ℕ) → slice_get ys j ≢ Some name) → (k : ℕ) → slice_get (xs ++ ys) k ≢ Some name
within_both [] ys name one two k at = two k at
within_both (x ∷ xs) ys name one two zero at = one zero at
within_both (x ∷ xs) ys name one two (suc k) at = within_both xs ys name (λ i. one (suc i)) two k at

once_both : (xs ys : List (List ℕ)) → Once xs → Once ys → Apart xs ys → Once (xs ++ ys)
once_both [] ys one two apart i j name before first second = two i j name before first second
once_both (x ∷ xs) ys one two apart i zero name before first second = absurd (omega arith)
once_both (x ∷ xs) ys one two apart zero (suc j) name before first second =
    within_both xs ys name (λ k at. one zero (suc k) name (omega arith) first at) (λ k at. apart zero k name first at) j
    second
once_both (x ∷ xs) ys one two apart (suc i) (suc j) name before first second =
    once_both xs ys (λ a b n earlier. one (suc a) (suc b) n (omega arith)) two (λ a b. apart (suc a) b) i j name
    (omega arith) first second

apart_both : (xs ys zs : List (List ℕ)) → Apart xs ys → Apart xs zs → Apart xs (ys ++ zs)
apart_both xs ys zs one two i j name at =
    within_both ys zs name (λ k there. one i k name at there) (λ k there. two i k name at there) j

turned : (xs ys : List (List ℕ)) → Apart xs ys → Apart ys xs
turned xs ys apart i j name at there = apart j i name there at

-- ---- flip-flops

names_of : List FlipFlop → List (List ℕ)
names_of flipflops = map (λ (f : FlipFlop). f.name) flipflops

first_kept : {F : Type 0} (x : Result (Unit {0}) F) (rest : List (Result (Unit {0}) F)) → all_of (x ∷ rest) ≡ Ok tt
    → (x ≡ Ok tt) × (all_of rest ≡ Ok tt)
first_kept (Ok done) rest is = (refl, is)
first_kept (Err fault) rest is = absurd cc

both_kept : {F : Type 0} (x y : Result (Unit {0}) F) → all_of (x ∷ y ∷ []) ≡ Ok tt → (x ≡ Ok tt) × (y ≡ Ok tt)
both_kept x y is =
    let one = first_kept x (y ∷ []) is in
    (one.0, (first_kept y [] one.1).0)

third_kept : {F : Type 0} (x y z : Result (Unit {0}) F) (rest : List (Result (Unit {0}) F))
    → all_of (x ∷ y ∷ z ∷ rest) ≡ Ok tt → z ≡ Ok tt
third_kept x y z rest is =
    (first_kept z rest (first_kept y (z ∷ rest) (first_kept x (y ∷ z ∷ rest) is).1).1).0

asked : (test : Bool) (cause : Cause) → ask test cause ≡ Ok tt → test ≡ true
asked true cause is = refl
asked false cause is = absurd cc

at_place : (row index entry : ℕ) (verdict : Verdict) → placed row index entry verdict ≡ Ok tt → verdict ≡ Ok tt
at_place row index entry (Ok done) is = refl
at_place row index entry (Err cause) is = absurd cc

-- a name that is one, isn't reserved, and is none of some others'
record IsNew (depth : ℕ) (earlier : List FlipFlop) (name : List ℕ) : Type 0 where
  spelled : is_name name ≡ true
  free : is_reserved depth name ≡ false
  new : is_flipflop_name earlier name ≡ false

new_name : (depth : ℕ) (earlier : List FlipFlop) (name : List ℕ) → flipflop_name_rule depth earlier name ≡ Ok tt
    → IsNew depth earlier name
unfolding flipflop_name_rule
new_name depth earlier name is =
    let spells = ask (is_name name) BadValue in
    let free = ask (not (is_reserved depth name)) Twice in
    let new = ask (not (is_flipflop_name earlier name)) Twice in
    let one = first_kept spells (free ∷ new ∷ []) is in
    let others = both_kept free new one.1 in
    record {
      spelled = asked (is_name name) BadValue one.0;
      free = not_true (is_reserved depth name) (asked (not (is_reserved depth name)) Twice others.0);
      new = not_true (is_flipflop_name earlier name) (asked (not (is_flipflop_name earlier name)) Twice others.1);
    }

new_of : (p : BoardParts) (earlier : List FlipFlop) (i : ℕ) (f : FlipFlop)
    → flipflop_check p earlier i f ≡ Ok tt → IsNew (depth_of p) earlier f.name
unfolding flipflop_check
new_of p earlier i f is =
    let named = at_flipflop name_key i (flipflop_name_rule (depth_of p) earlier f.name) in
    let driven = at_flipflop control_key i (control_rule p.fields f.control) in
    let loads = list_check (in_load i) p.fields f.control (load_rule p.width (length p.flipflop)) f.load in
    new_name (depth_of p) earlier f.name
    (at_place name_key (number_16 i) 0 (flipflop_name_rule (depth_of p) earlier f.name)
    (first_kept named (driven ∷ loads ∷ []) is).0)

flips_parts : (p : BoardParts) (earlier : List FlipFlop) (i : ℕ) (f : FlipFlop)
    (rest : List FlipFlop) → flipflops_from p earlier i (f ∷ rest) ≡ Ok tt
    → (flipflop_check p earlier i f ≡ Ok tt)
    × (flipflops_from p (earlier ++ f ∷ []) (i + 1) rest ≡ Ok tt)
unfolding flipflops_from
flips_parts p earlier i f rest is =
    both_kept (flipflop_check p earlier i f)
    (flipflops_from p (earlier ++ f ∷ []) (i + 1) rest) is

fewer : (depth : ℕ) (earlier : List FlipFlop) (f : FlipFlop) (name : List ℕ) → IsNew depth (earlier ++ f ∷ []) name
    → IsNew depth earlier name
fewer depth earlier f name is = record {
  spelled = is.spelled;
  free = is.free;
  new = (or_none (is_flipflop_name earlier name) (is_flipflop_name (f ∷ []) name)
      (sym (list_any-append (λ (g : FlipFlop). bytes_eq name g.name) earlier (f ∷ [])) ∙ is.new)).0;
}

flips_new : (p : BoardParts) (earlier : List FlipFlop) (i : ℕ) (fs : List FlipFlop)
    → flipflops_from p earlier i fs ≡ Ok tt → (j : ℕ) (name : List ℕ)
    → slice_get (names_of fs) j ≡ Some name → IsNew (depth_of p) earlier name
unfolding names_of
flips_new p earlier i [] is j name at = absurd cc
flips_new p earlier i (f ∷ rest) is zero name at =
    subst (IsNew (depth_of p) earlier) (some_same f.name name at) (new_of p earlier i f
    (flips_parts p earlier i f rest is).0)
flips_new p earlier i (f ∷ rest) is (suc j) name at =
    fewer (depth_of p) earlier f name (flips_new p (earlier ++ f ∷ []) (i + 1) rest
    (flips_parts p earlier i f rest is).1 j name at)

flips_once : (p : BoardParts) (earlier : List FlipFlop) (i : ℕ) (fs : List FlipFlop)
    → flipflops_from p earlier i fs ≡ Ok tt → Once (names_of fs)
unfolding names_of
flips_once p earlier i [] is a b name before first second = absurd cc
flips_once p earlier i (f ∷ rest) is a zero name before first second = absurd (omega arith)
flips_once p earlier i (f ∷ rest) is zero (suc b) name before first second =
    let later = (flips_parts p earlier i f rest is).1 in
    let new = flips_new p (earlier ++ f ∷ []) (i + 1) rest later b name second in
    let none = (or_none (is_flipflop_name earlier name) (is_flipflop_name (f ∷ []) name)
    (sym (list_any-append (λ (g : FlipFlop). bytes_eq name g.name) earlier (f ∷ [])) ∙ new.new)).1 in
    let other = (or_none (bytes_eq name f.name) false none).0 in
    let same : bytes_eq name f.name ≡ true = subst (λ (y : List ℕ). bytes_eq name y ≡ true)
    (sym (some_same f.name name first)) (same_bytes name) in
    cc
flips_once p earlier i (f ∷ rest) is (suc a) (suc b) name before first second =
    flips_once p (earlier ++ f ∷ []) (i + 1) rest
    (flips_parts p earlier i f rest is).1 a b name
    (omega arith) first second

-- ---- a board

-- the names of its elements
pub board_names : BoardParts → List (List ℕ)
board_names board = names_before ++ (names_of board.flipflop ++ names_behind_of board)

flips_kept : (board : BoardParts) → check_of board ≡ Ok tt
    → flipflops_from board [] 0 board.flipflop ≡ Ok tt
unfolding check_of flipflops_check
flips_kept board is =
    let flips = third_kept (sizes_check board) (fields_check board) (flipflops_check board)
    (points_check board ∷ lists_check board ∷ map_check board ∷ []) is in
    (both_kept (at_key flipflop_key (flipflops_rule (length board.flipflop)))
    (flipflops_from board [] 0 board.flipflop) flips).1

-- what is reserved is in no list of flip-flops
free_of : (depth : ℕ) (name : List ℕ) → is_reserved depth name ≡ false
    → (list_any (bytes_eq name) names_before ≡ false) × (list_any (bytes_eq name) (names_behind depth) ≡ false)
free_of depth name free =
    let one = or_none (list_any (bytes_eq name) names_before) _ free in
    (one.0, (or_none (list_any (bytes_eq name) (names_behind depth)) _ one.1).0)

-- of the names behind the flip-flops' none stands twice, none is one of those before, and each is spelled as a name
record AreBehind (behind : List (List ℕ)) : Type 0 where
  once : are_free behind ≡ true
  apart : list_all (λ name. not (list_any (bytes_eq name) behind)) names_before ≡ true
  spelled : list_all is_name behind ≡ true

are_behind : (board : BoardParts) → AreBehind (names_behind_of board)
unfolding is_name
are_behind board = elim (depth_known board) [
  | inl five ↦ rw five (record { once = refl; apart = refl; spelled = refl })
  | inr nine ↦ rw nine (record { once = refl; apart = refl; spelled = refl })
]

-- none is that of the stack pointer
pointer_free : (depth : ℕ) (name : List ℕ) → is_reserved depth name ≡ false → bytes_eq name stack_pointer_name ≡ false
pointer_free depth name free =
    let one = or_none (list_any (bytes_eq name) names_before) _ free in
    (or_none (list_any (bytes_eq name) (names_behind depth)) _ one.1).1

no_pointer_behind : (board : BoardParts)
    → list_all (λ name. not (bytes_eq name stack_pointer_name)) (names_behind_of board) ≡ true
no_pointer_behind board = elim (depth_known board) [ inl five ↦ rw five refl | inr nine ↦ rw nine refl ]

pub no_pointer : (board : BoardParts) → check_of board ≡ Ok tt
    → Each (λ name. not (bytes_eq name stack_pointer_name)) (board_names board)
unfolding board_names
no_pointer board is =
    let test = λ (name : List ℕ). not (bytes_eq name stack_pointer_name) in
    let new = flips_new board [] 0 board.flipflop (flips_kept board is) in
    let flips : Each test (names_of board.flipflop) =
    λ i name at. ap not (pointer_free (depth_of board) name (new i name at).free) in
    each_both test names_before (names_of board.flipflop ++ names_behind_of board) (all_each test names_before refl)
    (each_both test (names_of board.flipflop) (names_behind_of board) flips
    (all_each test (names_behind_of board) (no_pointer_behind board)))

pub board_once : (board : BoardParts) → check_of board ≡ Ok tt → Once (board_names board)
unfolding board_names
board_once board is =
    let from = flips_kept board is in
    let flips = names_of board.flipflop in
    let behind = names_behind_of board in
    let known = are_behind board in
    let new = flips_new board [] 0 board.flipflop from in
    let before_flips : Apart flips names_before =
    λ i j name at. nowhere names_before name (free_of (depth_of board) name (new i name at).free).0 j in
    let flips_behind : Apart flips behind =
    λ i j name at. nowhere behind name (free_of (depth_of board) name (new i name at).free).1 j in
    let ends : Apart names_before behind =
    λ i j name at. nowhere behind name
    (not_true (list_any (bytes_eq name) behind)
    (all_each (λ name. not (list_any (bytes_eq name) behind)) names_before known.apart i name at)) j in
    once_both names_before (flips ++ behind) (free_once names_before refl)
    (once_both flips behind (flips_once board [] 0 board.flipflop from) (free_once behind known.once) flips_behind)
    (apart_both names_before flips behind (turned flips names_before before_flips) ends)

pub board_spelled : (board : BoardParts) → check_of board ≡ Ok tt → Each is_name (board_names board)
unfolding board_names is_name
board_spelled board is =
    let new = flips_new board [] 0 board.flipflop (flips_kept board is) in
    let behind : Each is_name (names_behind_of board) =
    all_each is_name (names_behind_of board) (are_behind board).spelled in
    each_both is_name names_before (names_of board.flipflop ++ names_behind_of board)
    (all_each is_name names_before refl)
    (each_both is_name (names_of board.flipflop) (names_behind_of board) (λ i name at. (new i name at).spelled) behind)

pub board_name : (board : BoardParts) (number : ℕ) → element_name board number ≡ slice_get (board_names board) number
unfolding board_names names_of
board_name board number = name_is board number

pub board_count : (board : BoardParts) → element_count board ≡ length (board_names board)
unfolding board_names names_of
board_count board =
    let flips = map (λ (f : FlipFlop). f.name) board.flipflop in
    let before : length names_before ≡ 19 = refl in
    omega (
      arith,
      before,
      count_is board,
      length-map board.flipflop (λ (f : FlipFlop). f.name),
      length-append names_before (flips ++ names_behind_of board),
      length-append flips (names_behind_of board),
    )
