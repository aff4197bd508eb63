-- The elements of a board by number and by name.
use Rattle.std.proofs.Common.{◌≡◌, ℕ, zero, suc, ◌+◌, ◌-◌, ◌<◌, ◌≤◌, ◌≢◌, List, [], ◌∷◌, ◌++◌, map, length, Bool, true}
use Rattle.std.proofs.Common.{false, cond, append-nil, Option, Some, None, slice_get, option_map, refl, sym, ap, ◌∙◌}
use Rattle.std.proofs.Common.{arith, inl, inr, min, take, if◌then◌else◌, ◌==◌}
use Rattle.std.specs.List.{position, position_from}
use Rattle.std.specs.Str.{bytes_eq}
use Rattle.std.proofs.lemmas.Bool.{cases_lt}
use Rattle.std.proofs.lemmas.Iterator.Adapters.{position_from-zero}
use Rattle.std.proofs.lemmas.List.{length-append, length-map, take_all}
use Rattle.std.proofs.lemmas.Option.{slice_get-map, slice_get_past}
use Rattle.mw_board.specs.declared.flipflop.FlipFlop.{FlipFlop}
use Rattle.mw_board.specs.declared.parts.BoardParts.{BoardParts}
use Rattle.mw_seq.specs.Sequencer.{IsDepth}
use Rattle.mw_board.specs.Depth.{depth_of}
use Rattle.mw_board.specs.Elements.{Element, register_names, address_register_name, instruction_register_name}
use Rattle.mw_board.specs.Elements.{names_before, names_behind_of, stack_names, of_width, elements_of, element_count}
use Rattle.mw_board.specs.Elements.{element_name, element_width, element_number}

-- ---- lists one after the other

front : {A : Type 0} (xs ys : List A) (n : ℕ) → n < length xs → slice_get (xs ++ ys) n ≡ slice_get xs n
front [] ys n h = absurd (omega arith)
front (x ∷ xs) ys zero h = refl
front (x ∷ xs) ys (suc n) h = front xs ys n (omega arith)

back : {A : Type 0} (xs ys : List A) (n : ℕ) → length xs ≤ n → slice_get (xs ++ ys) n ≡ slice_get ys (n - length xs)
back [] ys n h = let e : n - 0 ≡ n = omega arith in rw e refl
back (x ∷ xs) ys zero h = absurd (omega arith)
back (x ∷ xs) ys (suc n) h =
    let e : suc n - suc (length xs) ≡ n - length xs = omega arith in
    rw e (back xs ys n (omega arith))

-- ---- names

-- the names of elements of one width, and of those after them
named : (width : ℕ) (names : List (List ℕ)) (rest : List Element)
    → map (λ (e : Element). e.name) (of_width width names ++ rest) ≡ names ++ map (λ (e : Element). e.name) rest
named width [] rest = refl
named width (name ∷ names) rest = ap (λ (others : List (List ℕ)). name ∷ others) (named width names rest)

named_alone : (width : ℕ) (names : List (List ℕ)) → map (λ (e : Element). e.name) (of_width width names) ≡ names
named_alone width [] = refl
named_alone width (name ∷ names) = ap (λ (others : List (List ℕ)). name ∷ others) (named_alone width names)

-- the names of a board's elements
pub names_are : (board : BoardParts)
    → map (λ (e : Element). e.name) (elements_of board)
    ≡ names_before ++ (map (λ (f : FlipFlop). f.name) board.flipflop ++ names_behind_of board)
unfolding elements_of
names_are board =
    let flipflops = map (λ (f : FlipFlop). f.name) board.flipflop in
    ap (λ (others : List (List ℕ)). names_before ++ others)
    (named 1 flipflops (of_width 12 (names_behind_of board))
    ∙ ap (λ (others : List (List ℕ)). flipflops ++ others) (named_alone 12 (names_behind_of board)))

pub name_is : (board : BoardParts) (number : ℕ)
    → element_name board number
    ≡ slice_get (names_before ++ (map (λ (f : FlipFlop). f.name) board.flipflop ++ names_behind_of board)) number
name_is board number =
    sym (slice_get-map (λ (e : Element). e.name) (elements_of board) number)
    ∙ ap (λ (names : List (List ℕ)). slice_get names number) (names_are board)

pub name_before : (board : BoardParts) (number : ℕ)
    → number < 19 → slice_get names_before number ≡ element_name board number
name_before board number h =
    let later = map (λ (f : FlipFlop). f.name) board.flipflop ++ names_behind_of board in
    sym (name_is board number ∙ front names_before later number h)

pub name_of_flipflop : (board : BoardParts) (number : ℕ) → 19 ≤ number → number - 19 < length board.flipflop
    → slice_get (map (λ (f : FlipFlop). f.name) board.flipflop) (number - 19) ≡ element_name board number
name_of_flipflop board number past h =
    let flipflops = map (λ (f : FlipFlop). f.name) board.flipflop in
    let within : number - 19 < length flipflops = omega (arith, length-map board.flipflop (λ (f : FlipFlop). f.name)) in
    sym (name_is board number
    ∙ back names_before (flipflops ++ names_behind_of board) number past
    ∙ front flipflops (names_behind_of board) (number - 19) within)

pub name_behind : (board : BoardParts) (number : ℕ) → 19 ≤ number → length board.flipflop ≤ number - 19
    → slice_get (names_behind_of board) (number - 19 - length board.flipflop) ≡ element_name board number
name_behind board number past h =
    let flipflops = map (λ (f : FlipFlop). f.name) board.flipflop in
    let all : length flipflops ≡ length board.flipflop = length-map board.flipflop (λ (f : FlipFlop). f.name) in
    let behind : length flipflops ≤ number - 19 = omega (arith, all) in
    sym (name_is board number
    ∙ back names_before (flipflops ++ names_behind_of board) number past
    ∙ back flipflops (names_behind_of board) (number - 19) behind
    ∙ ap (λ (n : ℕ). slice_get (names_behind_of board) (number - 19 - n)) all)

-- how many there are
pub count_is : (board : BoardParts) → element_count board ≡ 19 + length board.flipflop + length (names_behind_of board)
count_is board =
    let flipflops = map (λ (f : FlipFlop). f.name) board.flipflop in
    let all : length flipflops ≡ length board.flipflop = length-map board.flipflop (λ (f : FlipFlop). f.name) in
    let both : length (flipflops ++ names_behind_of board) ≡ length flipflops + length (names_behind_of board) =
    length-append flipflops (names_behind_of board) in
    let before : length names_before ≡ 19 = refl in
    let whole : element_count board ≡ length names_before + length (flipflops ++ names_behind_of board) =
    sym (length-map (elements_of board) (λ (e : Element). e.name))
    ∙ ap length (names_are board)
    ∙ length-append names_before (flipflops ++ names_behind_of board) in
    omega (arith, all, both, before, whole)

five_or_nine : (nine : Bool) → IsDepth (if nine then 9 else 5)
five_or_nine true = inr refl
five_or_nine false = inl refl

-- a board's stack has five words or nine
pub depth_known : (board : BoardParts) → IsDepth (depth_of board)
unfolding depth_of
depth_known board = five_or_nine (board.stack == 9)

-- the least and the most words that a stack has
pub words_least : (board : BoardParts) → 5 ≤ depth_of board
words_least board = elim (depth_known board) [
  | inl five ↦ omega (arith, five)
  | inr nine ↦ omega (arith, nine)
]

pub words_few : (board : BoardParts) → depth_of board ≤ 9
words_few board = elim (depth_known board) [
  | inl five ↦ omega (arith, five)
  | inr nine ↦ omega (arith, nine)
]

-- behind the flip-flops are two counters, and each word of the stack
pub behind_count : (board : BoardParts) → length (names_behind_of board) ≡ 2 + depth_of board
behind_count board = elim (depth_known board) [
  | inl five ↦ rw five refl
  | inr nine ↦ rw nine refl
]

-- how many elements there are
pub count_of : (board : BoardParts) → element_count board ≡ 21 + length board.flipflop + depth_of board
count_of board = omega (arith, count_is board, behind_count board)

-- no stack has more words than there are names for
pub take_some : (depth : ℕ) → take (min depth 9) stack_names ≡ take depth stack_names
take_some depth = elim (cases_lt depth 9) [
  | inl few ↦ let e : min depth 9 ≡ depth = omega arith in rw e refl
  | inr many ↦ let e : min depth 9 ≡ 9 = omega arith in rw (e, take_all depth stack_names many) refl
]

-- ---- widths

-- an element of a width
of_this : (width : ℕ) (names : List (List ℕ)) (rest : List Element) (n : ℕ) → n < length names
    → option_map (λ (e : Element). e.width) (slice_get (of_width width names ++ rest) n) ≡ Some width
of_this width [] rest n h = absurd (omega arith)
of_this width (name ∷ names) rest zero h = refl
of_this width (name ∷ names) rest (suc n) h = of_this width names rest n (omega arith)

-- an element behind those of a width
behind : (width : ℕ) (names : List (List ℕ)) (rest : List Element) (n : ℕ) → length names ≤ n
    → option_map (λ (e : Element). e.width) (slice_get (of_width width names ++ rest) n)
    ≡ option_map (λ (e : Element). e.width) (slice_get rest (n - length names))
behind width [] rest n h = let e : n - 0 ≡ n = omega arith in rw e refl
behind width (name ∷ names) rest zero h = absurd (omega arith)
behind width (name ∷ names) rest (suc n) h =
    let e : suc n - suc (length names) ≡ n - length names = omega arith in
    rw e (behind width names rest n (omega arith))

-- the elements from the flip-flops on, and those behind Q
abbrev later_elements : BoardParts → List Element
later_elements board = of_width 1 (map (λ (f : FlipFlop). f.name) board.flipflop) ++ of_width 12 (names_behind_of board)

abbrev behind_q : BoardParts → List Element
behind_q board =
    of_width board.address (address_register_name ∷ []) ++ of_width board.width (instruction_register_name ∷ [])
    ++ later_elements board

pub width_of_address : (board : BoardParts) → Some board.address ≡ element_width board 17
unfolding elements_of
width_of_address board = refl

pub width_before : (board : BoardParts) (number : ℕ)
    → number < 19 → number ≢ 17 → Some board.width ≡ element_width board number
unfolding elements_of
width_before board number h other = elim (cases_lt number 17) [
  | inl register ↦ sym (of_this board.width register_names (behind_q board) number register)
  | inr past ↦ let e : number ≡ 18 = omega arith in rw e refl
]

later_width : (board : BoardParts) (number : ℕ) → 19 ≤ number
    → element_width board number
    ≡ option_map (λ (e : Element). e.width) (slice_get (later_elements board) (number - 19))
unfolding elements_of
later_width board number past =
    let a = behind board.width register_names (behind_q board) number (omega arith) in
    let b = behind board.address (address_register_name ∷ [])
    (of_width board.width (instruction_register_name ∷ []) ++ later_elements board) (number - 17) (omega arith) in
    let d =
    behind board.width (instruction_register_name ∷ []) (later_elements board) (number - 17 - 1) (omega arith) in
    let e : number - 17 - 1 - 1 ≡ number - 19 = omega arith in
    a ∙ b ∙ d ∙ ap (λ (n : ℕ). option_map (λ (e : Element). e.width) (slice_get (later_elements board) n)) e

pub width_of_flipflop : (board : BoardParts) (number : ℕ)
    → 19 ≤ number → number < 19 + length board.flipflop → Some 1 ≡ element_width board number
width_of_flipflop board number past h =
    let flipflops = map (λ (f : FlipFlop). f.name) board.flipflop in
    let within : number - 19 < length flipflops = omega (arith, length-map board.flipflop (λ (f : FlipFlop). f.name)) in
    sym (later_width board number past ∙ of_this 1 flipflops (of_width 12 (names_behind_of board)) (number - 19) within)

last_width : (board : BoardParts) (number : ℕ) → 19 + length board.flipflop ≤ number
    → element_width board number ≡ option_map (λ (e : Element). e.width)
    (slice_get (of_width 12 (names_behind_of board) ++ []) (number - 19 - length board.flipflop))
last_width board number past =
    let flipflops = map (λ (f : FlipFlop). f.name) board.flipflop in
    let all : length flipflops ≡ length board.flipflop = length-map board.flipflop (λ (f : FlipFlop). f.name) in
    later_width board number (omega arith)
    ∙ behind 1 flipflops (of_width 12 (names_behind_of board)) (number - 19) (omega (arith, all))
    ∙ rw (all, append-nil (of_width 12 (names_behind_of board))) refl

pub width_behind : (board : BoardParts) (number : ℕ)
    → 19 + length board.flipflop ≤ number → number < element_count board → Some 12 ≡ element_width board number
width_behind board number past h =
    sym (last_width board number past
    ∙ of_this 12 (names_behind_of board) [] (number - 19 - length board.flipflop) (omega (arith, count_is board)))

pub no_width : (board : BoardParts) (number : ℕ) → element_count board ≤ number → None ≡ element_width board number
no_width board number past = rw (slice_get_past (elements_of board) number past) refl

-- ---- numbers

from_map : {A B : Type 0} (test : B → Bool) (f : A → B) (n : ℕ) (xs : List A)
    → position_from test n (map f xs) ≡ position_from (λ x. test (f x)) n xs
from_map test f n [] = refl
from_map test f n (x ∷ xs) = ap (cond (test (f x)) (Some n)) (from_map test f (n + 1) xs)

-- the first place of what passes a test, in a list that is made of another
pub position-map : {A B : Type 0} (test : B → Bool) (f : A → B) (xs : List A)
    → position test (map f xs) ≡ position (λ x. test (f x)) xs
position-map test f xs =
    position_from-zero test (map f xs) ∙ (from_map test f 0 xs ∙ sym (position_from-zero (λ x. test (f x)) xs))

one_on : (b : Bool) (n k : ℕ) (here there : Option ℕ) → here ≡ option_map (λ i. n + i) there
    → cond b (Some (n + k)) here ≡ option_map (λ i. n + i) (cond b (Some k) there)
one_on true n k here there h = refl
one_on false n k here there h = h

further : {A : Type 0} (test : A → Bool) (n k : ℕ) (xs : List A)
    → position_from test (n + k) xs ≡ option_map (λ i. n + i) (position_from test k xs)
further test n k [] = refl
further test n k (x ∷ xs) =
    let e : n + k + 1 ≡ n + (k + 1) = omega arith in
    one_on (test x) n k _ _ (rw e (further test n (k + 1) xs))

here_or : (b : Bool) (n i : ℕ) (short long : Option ℕ)
    → cond b (Some n) short ≡ Some i → (short ≡ Some i → long ≡ Some i) → cond b (Some n) long ≡ Some i
here_or true n i short long h later = h
here_or false n i short long h later = later h

not_here : (b : Bool) (n : ℕ) (short long other : Option ℕ)
    → cond b (Some n) short ≡ None → (short ≡ None → long ≡ other) → cond b (Some n) long ≡ other
not_here true n short long other h later = absurd cc
not_here false n short long other h later = later h

from_front : {A : Type 0} (test : A → Bool) (n i : ℕ) (xs ys : List A)
    → position_from test n xs ≡ Some i → position_from test n (xs ++ ys) ≡ Some i
from_front test n i [] ys h = absurd cc
from_front test n i (x ∷ xs) ys h = here_or (test x) n i _ _ h (from_front test (n + 1) i xs ys)

from_back : {A : Type 0} (test : A → Bool) (n : ℕ) (xs ys : List A)
    → position_from test n xs ≡ None → position_from test n (xs ++ ys) ≡ position_from test (n + length xs) ys
from_back test n [] ys h = let e : n + 0 ≡ n = omega arith in rw e refl
from_back test n (x ∷ xs) ys h =
    let e : n + 1 + length xs ≡ n + length (x ∷ xs) = omega arith in
    not_here (test x) n _ _ _ h
    (λ later. from_back test (n + 1) xs ys later ∙ ap (λ (k : ℕ). position_from test k ys) e)

-- what is found in the first of two lists
pub found_first : {A : Type 0} (test : A → Bool) (xs ys : List A) (i : ℕ)
    → position test xs ≡ Some i → position test (xs ++ ys) ≡ Some i
found_first test xs ys i h =
    position_from-zero test (xs ++ ys) ∙ from_front test 0 i xs ys (sym (position_from-zero test xs) ∙ h)

-- what is found, or not, in the second of two lists
pub found_second : {A : Type 0} (test : A → Bool) (xs ys : List A)
    → position test xs ≡ None → position test (xs ++ ys) ≡ option_map (λ i. length xs + i) (position test ys)
found_second test xs ys h =
    let e : 0 + length xs ≡ length xs + 0 = omega arith in
    position_from-zero test (xs ++ ys) ∙ from_back test 0 xs ys (sym (position_from-zero test xs) ∙ h)
    ∙ ap (λ (k : ℕ). position_from test k ys) e
    ∙ further test (length xs) 0 ys
    ∙ ap (option_map (λ i. length xs + i)) (sym (position_from-zero test ys))

pub number_before : (board : BoardParts) (name : List ℕ) (place : ℕ)
    → position (bytes_eq name) names_before ≡ Some place → Some place ≡ element_number board name
number_before board name place h = rw (names_are board) (sym (found_first (bytes_eq name) names_before _ place h))

-- the number of what stands from the flip-flops on
later_number : (board : BoardParts) (name : List ℕ) → position (bytes_eq name) names_before ≡ None
    → element_number board name ≡ option_map (λ i. 19 + i)
    (position (bytes_eq name) (map (λ (f : FlipFlop). f.name) board.flipflop ++ names_behind_of board))
later_number board name h =
    ap (position (bytes_eq name)) (names_are board) ∙ found_second (bytes_eq name) names_before _ h

pub number_of_flipflop : (board : BoardParts) (name : List ℕ) (place : ℕ) → position (bytes_eq name) names_before ≡ None
    → position (bytes_eq name) (map (λ (f : FlipFlop). f.name) board.flipflop) ≡ Some place
    → Some (19 + place) ≡ element_number board name
number_of_flipflop board name place none h =
    sym (later_number board name none ∙ ap (option_map (λ i. 19 + i))
    (found_first (bytes_eq name) (map (λ (f : FlipFlop). f.name) board.flipflop) _ place h))

added : (a b : ℕ) (place : Option ℕ)
    → option_map (λ i. a + i) (option_map (λ i. b + i) place) ≡ option_map (λ i. a + b + i) place
added a b None = refl
added a b (Some i) = ap Some (omega arith)

-- the number of what stands behind the flip-flops
last_number : (board : BoardParts) (name : List ℕ) → position (bytes_eq name) names_before ≡ None
    → position (bytes_eq name) (map (λ (f : FlipFlop). f.name) board.flipflop) ≡ None
    → element_number board name
    ≡ option_map (λ i. 19 + length board.flipflop + i) (position (bytes_eq name) (names_behind_of board))
last_number board name none other =
    let flipflops = map (λ (f : FlipFlop). f.name) board.flipflop in
    let all : length flipflops ≡ length board.flipflop = length-map board.flipflop (λ (f : FlipFlop). f.name) in
    later_number board name none
    ∙ ap (option_map (λ i. 19 + i)) (found_second (bytes_eq name) flipflops (names_behind_of board) other)
    ∙ rw all (added 19 (length board.flipflop) (position (bytes_eq name) (names_behind_of board)))

pub number_behind : (board : BoardParts) (name : List ℕ) (place : ℕ) → position (bytes_eq name) names_before ≡ None
    → position (bytes_eq name) (map (λ (f : FlipFlop). f.name) board.flipflop) ≡ None
    → position (bytes_eq name) (names_behind_of board) ≡ Some place
    → Some (19 + length board.flipflop + place) ≡ element_number board name
number_behind board name place none other h = rw (last_number board name none other, h) refl

pub no_number : (board : BoardParts) (name : List ℕ) → position (bytes_eq name) names_before ≡ None
    → position (bytes_eq name) (map (λ (f : FlipFlop). f.name) board.flipflop) ≡ None
    → position (bytes_eq name) (names_behind_of board) ≡ None → None ≡ element_number board name
no_number board name none other h = rw (last_number board name none other, h) refl
