-- How an index chooses among functions.
use Rattle.std.proofs.Common.{◌≡◌, ℕ, zero, suc, ◌+◌, ◌-◌, ◌^◌, ◌/◌, ◌<◌, ◌≤◌, List, [], ◌∷◌, ◌++◌, length, map}
use Rattle.std.proofs.Common.{slice_index, refl, ap, sym, ◌∙◌, arith, subst}
use Rattle.std.specs.Prelude.{slice_index_or}
use Rattle.std.proofs.lemmas.List.{get_or-map, length-map}
use Rattle.std.proofs.lemmas.Nat.{pow-add, pow_pos}
use Rattle.mw_term.specs.Functions.{Function, never, Triple, ite, made}
use Rattle.mw_term.specs.Rows.{choices, index_row, last_made}
use Rattle.mw_dd.specs.declared.dd.DdFault.{DdFault}
use Rattle.mw_dd.specs.declared.dd.DdFault.TheVariants.{OverBudget, NoMemory}
use Rattle.mw_dd.specs.Nodes.{Node}
use Rattle.mw_dd.specs.Diagrams.{Keeps}
use Rattle.mw_base.specs.Words.{bit_of}
use Rattle.mw_blast.specs.Bits.{StandsFor, AreThere, StandEach, AreFor}
use Rattle.mw_blast.specs.Causes.{IsOneOver}
use Rattle.mw_blast.specs.Entries.{function_at, bits_at, entry_row, half_at, left_by, AreLeftOf, IsLeftAt}
use Rattle.mw_blast.specs.Rows.{IsRefused}
use Rattle.mw_blast.proofs.Bits.{operand, keeps-itself, keeps-then}
use Rattle.mw_blast.proofs.Operations.{over_behind, over_before, alone_over}

-- ---- pairs

pub choices_count : (i : Function) (m : ℕ) (fs : List Function) → length fs ≡ m + m → length (choices i fs) ≡ m
choices_count i zero [] half = refl
choices_count i zero (f ∷ rest) half = absurd (omega arith)
choices_count i (suc m) [] half = absurd (omega arith)
choices_count i (suc m) (f ∷ []) half = absurd (omega arith)
choices_count i (suc m) (f ∷ g ∷ rest) half = omega (arith, choices_count i m rest (omega arith))

choice_is : (i : Function) (m k : ℕ) (fs : List Function) (d : Triple) → length fs ≡ m + m → k < m
    → slice_index_or (choices i fs) k d ≡ ite i (function_at fs (k + k + 1)) (function_at fs (k + k))
choice_is i zero k fs d half below = absurd (omega arith)
choice_is i (suc m) k [] d half below = absurd (omega arith)
choice_is i (suc m) k (f ∷ []) d half below = absurd (omega arith)
choice_is i (suc m) zero (f ∷ g ∷ rest) d half below = refl
choice_is i (suc m) (suc k) (f ∷ g ∷ rest) d half below =
    let first : suc k + suc k ≡ suc (suc (k + k)) = omega arith in
    let second : suc k + suc k + 1 ≡ suc (suc (k + k + 1)) = omega arith in
    rw (second, first) (choice_is i m k rest d (omega arith) (omega arith))

half_is : (i : Function) (m k : ℕ) (fs : List Function) → length fs ≡ m + m → k < m
    → function_at (map made (choices i fs)) k ≡ half_at i fs k
half_is i m k fs half below =
    let none = ite never never never in
    get_or-map made (choices i fs) k none never (omega (arith, below, choices_count i m fs half))
    ∙ ap made (choice_is i m k fs none half below)

-- nodes for the halves of pairs
pub halves_stand : (nodes : List Node) (i : Function) (m : ℕ) (fs : List Function) (xs : List ℕ) → length fs ≡ m + m
    → AreFor nodes m (half_at i fs) xs
    → AreFor nodes (length (choices i fs)) (function_at (map made (choices i fs))) xs
halves_stand nodes i m fs xs half are = record {
  count = are.count ∙ sym (choices_count i m fs half);
  each = λ j inside. subst (λ (f : Function). StandsFor nodes (slice_index xs j) f)
      (sym (half_is i m j fs half (omega (arith, inside, are.count)))) (are.each j inside);
}

-- a half that is refused
pub half_refused : (i : Function) (m k : ℕ) (fs : List Function) (budget : ℕ) (e : DdFault) → length fs ≡ m + m → k < m
    → IsRefused (ite i (function_at fs (k + k + 1)) (function_at fs (k + k)) ∷ []) budget e
    → IsRefused (choices i fs) budget e
half_refused i m k fs budget OverBudget half below over =
    let o = ite i (function_at fs (k + k + 1)) (function_at fs (k + k)) in (
      k,
      o,
      omega (arith, below, choices_count i m fs half),
      choice_is i m k fs o half below,
      alone_over o budget over,
    )
half_refused i m k fs budget NoMemory half below over = tt

-- ---- what is left

twice : (n : ℕ) → 2 ^ suc n ≡ 2 ^ n + 2 ^ n
twice n =
    let one : suc n ≡ n + 1 = omega arith in
    ap (λ (k : ℕ). 2 ^ k) one ∙ pow-add 2 n 1 ∙ omega arith

pub none_chosen : (nodes : List Node) (index : ℕ → Function) (n : ℕ) (all : List Function) (left : List ℕ)
    → length all ≡ 2 ^ n → AreFor nodes (length all) (function_at all) left → AreLeftOf nodes index n all 0 left
none_chosen nodes index n all left size are = record {
  bits = n;
  rest = omega arith;
  functions = all;
  size = size;
  stand = are;
  over = λ budget over. over;
  last = refl;
}

module _ (now new : List Node) (index : ℕ → Function) (n : ℕ) (all : List Function) (t : ℕ) (left : List ℕ) where
  -- one index bit more
  bit_more : (halves : List ℕ) (bits : ℕ) → t + bits ≡ n → t < n → (fs : List Function) → length fs ≡ 2 ^ bits
      → ((budget : ℕ) → IsOneOver (index_row index t bits fs) budget → IsOneOver (index_row index 0 n all) budget)
      → left_by index t bits fs ≡ left_by index 0 n all
      → AreFor new (length (choices (index t) fs)) (function_at (map made (choices (index t) fs))) halves
      → AreLeftOf new index n all (t + 1) halves
  bit_more halves zero rest below fs size over last are = absurd (omega (arith, rest, below))
  bit_more halves (suc bits) rest below fs size over last are =
      let few = choices (index t) fs in
      let many : length few ≡ 2 ^ bits = choices_count (index t) (2 ^ bits) fs (size ∙ twice bits) in
      let mapped : length (map made few) ≡ length few = length-map few made in
      record {
        bits = bits;
        rest = omega (arith, rest);
        functions = map made few;
        size = mapped ∙ many;
        stand = subst (λ (k : ℕ). AreFor new k (function_at (map made few)) halves) (sym mapped) are;
        over = λ budget one. over budget (over_behind few (index_row index (t + 1) bits (map made few)) budget one);
        last = last;
      }

  pub left_next : (halves : List ℕ) → t < n → (is : AreLeftOf now index n all t left)
      → AreFor new (length (choices (index t) is.functions))
      (function_at (map made (choices (index t) is.functions))) halves
      → AreLeftOf new index n all (t + 1) halves
  left_next halves below is are = bit_more halves is.bits is.rest below is.functions is.size is.over is.last are

  -- an index bit that is refused
  bit_refused : (bits budget : ℕ) (e : DdFault) → t + bits ≡ n → t < n → (fs : List Function)
      → (IsOneOver (index_row index t bits fs) budget → IsOneOver (index_row index 0 n all) budget)
      → IsRefused (choices (index t) fs) budget e → IsRefused (index_row index 0 n all) budget e
  bit_refused zero budget e rest below fs over refused = absurd (omega (arith, rest, below))
  bit_refused (suc bits) budget OverBudget rest below fs over refused =
      over (over_before (choices (index t) fs)
      (index_row index (t + 1) bits (map made (choices (index t) fs))) budget refused)
  bit_refused (suc bits) budget NoMemory rest below fs over refused = tt

  pub left_refused : (budget : ℕ) (e : DdFault) → t < n → (is : AreLeftOf now index n all t left)
      → IsRefused (choices (index t) is.functions) budget e → IsRefused (index_row index 0 n all) budget e
  left_refused budget e below is refused =
      bit_refused is.bits budget e is.rest below is.functions (is.over budget) refused

-- there is an operation where there is a pair
index_some : (index : ℕ → Function) (t n : ℕ) (fs : List Function) → 2 ≤ length fs
    → (first : Triple) × ((rest : List Triple) × (index_row index t (suc n) fs ≡ first ∷ rest))
index_some index t n [] many = absurd (omega arith)
index_some index t n (f ∷ []) many = absurd (omega arith)
index_some index t n (f ∷ g ∷ rest) many = (
  ite (index t) g f,
  (choices (index t) rest ++ index_row index (t + 1) n (map made (choices (index t) (f ∷ g ∷ rest))), refl),
)

last_behind : (front : List Triple) (first : Triple) (rest : List Triple)
    → last_made (front ++ first ∷ rest) ≡ last_made (first ∷ rest)
last_behind [] first rest = refl
last_behind (x ∷ []) first rest = refl
last_behind (x ∷ y ∷ front) first rest = last_behind (y ∷ front) first rest

pair_there : (n : ℕ) → 2 ≤ 2 ^ suc n
pair_there n = omega (arith, twice n, pow_pos n)

-- what is left at last is what the last operation makes
pub left_last : (index : ℕ → Function) (n t : ℕ) (fs : List Function) → length fs ≡ 2 ^ suc n
    → left_by index t (suc n) fs ≡ last_made (index_row index t (suc n) fs)
left_last index zero t [] size = absurd (omega arith)
left_last index zero t (f ∷ []) size = absurd (omega arith)
left_last index zero t (f ∷ g ∷ []) size = refl
left_last index zero t (f ∷ g ∷ h ∷ rest) size = absurd (omega arith)
left_last index (suc n) t fs size =
    let few = choices (index t) fs in
    let many : length few ≡ 2 ^ suc n = choices_count (index t) (2 ^ suc n) fs (size ∙ twice (suc n)) in
    let left_many : length (map made few) ≡ 2 ^ suc n = length-map few made ∙ many in
    let some = index_some index (t + 1) n (map made few) (omega (arith, left_many, pair_there n)) in
    left_last index n (t + 1) (map made few) left_many
    ∙ ap last_made some.1.1
    ∙ sym (last_behind few some.0 some.1.0)
    ∙ ap (λ (row : List Triple). last_made (few ++ row)) (sym some.1.1)

-- nodes for what is left where all index bits have chosen
pub left_first : (nodes : List Node) (index : ℕ → Function) (n t : ℕ) (all : List Function) (left : List ℕ) → 1 ≤ n
    → t ≡ n → length all ≡ 2 ^ n → AreLeftOf nodes index n all t left
    → StandsFor nodes (slice_index left 0) (last_made (index_row index 0 n all))
left_first nodes index n t all left some end size is =
    let none : is.bits ≡ 0 = omega (arith, is.rest, end) in
    let one : length is.functions ≡ 1 = is.size ∙ ap (λ (k : ℕ). 2 ^ k) none in
    let there : 0 < length left = omega (arith, is.stand.count, one) in
    let first : function_at is.functions 0 ≡ left_by index 0 n all =
    ap (λ (k : ℕ). left_by index t k is.functions) (sym none) ∙ is.last in
    let top : n ≡ suc (n - 1) = omega (arith, some) in
    let last : left_by index 0 n all ≡ last_made (index_row index 0 n all) =
    subst (λ (k : ℕ). left_by index 0 k all ≡ last_made (index_row index 0 k all)) (sym top)
    (left_last index (n - 1) 0 all (size ∙ ap (λ (k : ℕ). 2 ^ k) top)) in
    subst (λ (f : Function). StandsFor nodes (slice_index left 0) f) (first ∙ last) (is.stand.each 0 there)

-- ---- along the index bits

pub begin_left : (nodes : List Node) (index numbers : List ℕ) (place : ℕ) (left : List ℕ)
    → length numbers ≡ 2 ^ length index
    → AreFor nodes (length numbers) (function_at (bits_at place numbers)) left
    → IsLeftAt nodes nodes index (bits_at place numbers) 0 left
begin_left nodes index numbers place left size are =
    let all = bits_at place numbers in
    let count : length all ≡ length numbers = length-map numbers (λ number. λ given. bit_of number place) in
    let whole : length index - 0 ≡ length index = omega arith in
    record {
      there = λ j inside. (are.each j inside).there;
      count = are.count ∙ size ∙ ap (λ (k : ℕ). 2 ^ k) (sym whole);
      keeps = keeps-itself nodes;
      each = λ F stand. none_chosen nodes F (length index) all left (count ∙ size)
          (subst (λ (k : ℕ). AreFor nodes k (function_at all) left) (sym count) are);
    }

-- one index bit more
left_over : (n t : ℕ) → t < n → n - t ≡ suc (n - (t + 1))
left_over n t below = omega (arith, below)

-- what is left is pairs
pub pairs_left : (n t count : ℕ) → t < n → count ≡ 2 ^ (n - t) → count / 2 + count / 2 ≡ count
pairs_left n t count below size =
    let double : count ≡ 2 ^ (n - (t + 1)) + 2 ^ (n - (t + 1)) =
    size ∙ ap (λ (k : ℕ). 2 ^ k) (left_over n t below) ∙ twice (n - (t + 1)) in
    omega (arith, double)

-- what halving says of functions for which its nodes stand
abbrev pub Halves : (now new : List Node) (x : ℕ) (left halves : List ℕ) → Type 0
Halves now new x left halves = (I : Function) (fs : List Function) → StandsFor now x I
    → AreFor now (length fs) (function_at fs) left
    → AreFor new (length (choices I fs)) (function_at (map made (choices I fs))) halves

pub next_left : (old now new : List Node) (index : List ℕ) (all : List Function) (t x : ℕ) (left halves : List ℕ)
    → IsLeftAt old now index all t left → t < length index → x ≡ slice_index index t → Keeps now new
    → AreThere new halves → length halves ≡ length left / 2 → Halves now new x left halves
    → IsLeftAt old new index all (t + 1) halves
next_left old now new index all t x left halves is below at keeps there count made_so =
    let n = length index in
    let double : length left ≡ 2 ^ (n - (t + 1)) + 2 ^ (n - (t + 1)) =
    is.count ∙ ap (λ (k : ℕ). 2 ^ k) (left_over n t below) ∙ twice (n - (t + 1)) in
    record {
      there = there;
      count = omega (arith, count, double);
      keeps = keeps-then old now new is.keeps keeps;
      each = λ F stand.
          let rest = is.each F stand in
          left_next now new F n all t left halves below rest
          (made_so (F t) rest.functions (operand old now index t x F is.keeps stand below at) rest.stand);
    }

-- what halving says where it is refused
abbrev pub RefusesHalves : (now : List Node) (x budget : ℕ) (left : List ℕ) (e : DdFault) → Type 0
RefusesHalves now x budget left e = (I : Function) (fs : List Function) → StandsFor now x I
    → AreFor now (length fs) (function_at fs) left → IsRefused (choices I fs) budget e

pub refused_left : (old now : List Node) (index : List ℕ) (all : List Function) (t x budget : ℕ) (left : List ℕ)
    (e : DdFault) → IsLeftAt old now index all t left → t < length index → x ≡ slice_index index t
    → RefusesHalves now x budget left e → (F : ℕ → Function) → StandEach old index F
    → IsRefused (index_row F 0 (length index) all) budget e
refused_left old now index all t x budget left e is below at refuses F stand =
    let rest = is.each F stand in
    left_refused now now F (length index) all t left budget e below rest
    (refuses (F t) rest.functions (operand old now index t x F is.keeps stand below at) rest.stand)

-- where all have chosen
pub end_left : (old now : List Node) (index numbers : List ℕ) (place t x : ℕ) (left : List ℕ)
    → IsLeftAt old now index (bits_at place numbers) t left → t ≡ length index → 1 ≤ length index
    → length numbers ≡ 2 ^ length index → x ≡ slice_index left 0 → (F : ℕ → Function) → StandEach old index F
    → StandsFor now x (last_made (entry_row F (length index) numbers place))
end_left old now index numbers place t x left is end some size at F stand =
    let all = bits_at place numbers in
    let count : length all ≡ length numbers = length-map numbers (λ number. λ given. bit_of number place) in
    subst (λ y. StandsFor now y (last_made (entry_row F (length index) numbers place))) (sym at)
    (left_first now F (length index) t all left some end (count ∙ size) (is.each F stand))
