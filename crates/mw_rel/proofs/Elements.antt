-- Elements of pairs as lists of values.
use Rattle.std.proofs.Common.{◌≡◌, ℕ, zero, suc, ◌+◌, ◌-◌, ◌<◌, ◌≤◌, ◌^◌, List, [], ◌∷◌, ◌++◌, map, take, length}
use Rattle.std.proofs.Common.{slice_index, Bool, true, false, inl, inr, ◌≢◌, refl, sym, ap, ◌∙◌, subst, arith}
use Rattle.std.proofs.Common.{length-append}
use Rattle.std.specs.Prelude.{slice_set, unwrap_or}
use Rattle.std.proofs.lemmas.Bool.{cases_lt}
use Rattle.std.proofs.lemmas.Grind.{same_number_lists}
use Rattle.std.proofs.lemmas.List.{length-map, length-take-le}
use Rattle.std.proofs.lemmas.Option.{slice_get-map, unwrap_or-slice_get}
use Rattle.std.proofs.Math.Seq.{take-nil}
use Rattle.mw_base.specs.Words.{num, bit_of}
use Rattle.mw_board.specs.declared.parts.BoardParts.{BoardParts}
use Rattle.mw_board.specs.Elements.{Element, elements_of, element_count, element_width}
use Rattle.mw_board.proofs.Elements.{count_of, words_few}
use Rattle.mw_cycle.specs.Boundary.{numbers}
use Rattle.mw_cycle.specs.declared.elements.Element.{Element as What}
use Rattle.mw_cycle.specs.declared.elements.Element.TheVariants.{Register, Q, Mar, Ir, FlipFlop, Pc, R, StackWord}
use Rattle.mw_cycle.specs.Elements.{element, element_of, value_of, bits_of}
use Rattle.mw_cycle.specs.State.{BoardState, Fits}
use Rattle.mw_cycle.proofs.Values.{width_is}
use Rattle.mw_expr.specs.declared.shape.Shape.{Shape}
use Rattle.mw_expr.specs.Values.{AreWords, IsImage}
use Rattle.mw_rel.specs.InRelation.{Pair, BothFit, values_in, values_of}
use Rattle.mw_rel.specs.Job.{Job, IsJob, shape_of}

-- ---- lists by number

pub numbers_length : (from count : ℕ) → length (numbers from count) ≡ count
numbers_length from zero = refl
numbers_length from (suc count) = omega (arith, numbers_length (from + 1) count)

pub mapped_at : (f : ℕ → ℕ) (from count i : ℕ) → i < count → slice_index (map f (numbers from count)) i ≡ f (from + i)
mapped_at f from zero i below = absurd (omega arith)
mapped_at f from (suc count) zero below = ap f (omega arith)
mapped_at f from (suc count) (suc i) below =
    let place : from + 1 + i ≡ from + suc i = omega arith in
    mapped_at f (from + 1) count i (omega arith) ∙ ap f place

pub front_at : (xs ys : List ℕ) (i : ℕ) → i < length xs → slice_index (xs ++ ys) i ≡ slice_index xs i
front_at [] ys i below = absurd (omega arith)
front_at (x ∷ rest) ys zero below = refl
front_at (x ∷ rest) ys (suc i) below = front_at rest ys i (omega arith)

pub back_at : (xs ys : List ℕ) (i : ℕ) → slice_index (xs ++ ys) (length xs + i) ≡ slice_index ys i
back_at [] ys i = ap (slice_index ys) (omega arith)
back_at (x ∷ rest) ys i =
    let place : length (x ∷ rest) + i ≡ suc (length rest + i) = omega arith in
    rw place (back_at rest ys i)

take_at : (n : ℕ) (xs : List ℕ) (i : ℕ) → i < n → slice_index (take n xs) i ≡ slice_index xs i
take_at n [] i below = ap (λ (xs : List ℕ). slice_index xs i) (take-nil n)
take_at zero (x ∷ rest) i below = absurd (omega arith)
take_at (suc n) (x ∷ rest) zero below = refl
take_at (suc n) (x ∷ rest) (suc i) below = take_at n rest i (omega arith)

-- a word put into a list is where it was put, and the others are as they were
pub set_same : (xs : List ℕ) (n v : ℕ) → n < length xs → slice_index (slice_set xs n v) n ≡ v
set_same [] n v below = absurd (omega arith)
set_same (x ∷ rest) zero v below = refl
set_same (x ∷ rest) (suc n) v below = set_same rest n v (omega arith)

pub set_other : (xs : List ℕ) (n v i : ℕ) → i ≢ n → slice_index (slice_set xs n v) i ≡ slice_index xs i
set_other [] n v i other = refl
set_other (x ∷ rest) zero v zero other = absurd (other refl)
set_other (x ∷ rest) zero v (suc i) other = refl
set_other (x ∷ rest) (suc n) v zero other = refl
set_other (x ∷ rest) (suc n) v (suc i) other = set_other rest n v i (λ same. other (ap suc same))

pub set_length : (xs : List ℕ) (n v : ℕ) → length (slice_set xs n v) ≡ length xs
set_length [] n v = refl
set_length (x ∷ rest) zero v = refl
set_length (x ∷ rest) (suc n) v = omega (arith, set_length rest n v)

-- one value more of those of another list
pub put_more : (xs target : List ℕ) (n v i : ℕ) → n < length xs → v ≡ slice_index target n
    → ((k : ℕ) → k < n → slice_index xs k ≡ slice_index target k) → i < n + 1
    → slice_index (slice_set xs n v) i ≡ slice_index target i
put_more xs target n v i within is so_far below = elim (cases_lt i n) [
  | inl before ↦ set_other xs n v i (λ same. absurd (omega arith)) ∙ so_far i before
  | inr past ↦ (let here : i ≡ n = omega arith in
      subst (λ k. slice_index (slice_set xs n v) k ≡ slice_index target k) (sym here) (set_same xs n v within ∙ is))
]

-- ---- the values of a pair

board_values_length : (board : BoardParts) (s : BoardState)
    → length (map (element board s) (numbers 0 (element_count board))) ≡ element_count board
board_values_length board s = length-map (numbers 0 (element_count board)) (element board s)
    ∙ numbers_length 0 (element_count board)

pub values_length : (board : BoardParts) (s : BoardState) (registers : List ℕ)
    → length (values_in board s registers) ≡ element_count board + length registers
values_length board s registers =
    omega (
      arith,
      length-append (map (element board s) (numbers 0 (element_count board))) registers,
      board_values_length board s,
    )

-- the value of an element of the board
pub board_value : (board : BoardParts) (s : BoardState) (registers : List ℕ) (n : ℕ) → n < element_count board
    → slice_index (values_in board s registers) n ≡ element board s n
board_value board s registers n below =
    let size = board_values_length board s in
    front_at (map (element board s) (numbers 0 (element_count board))) registers n (omega arith)
    ∙ mapped_at (element board s) 0 (element_count board) n below
    ∙ ap (element board s) (omega arith)

-- the value of a register of the machine
pub register_value : (board : BoardParts) (s : BoardState) (registers : List ℕ) (n : ℕ)
    → slice_index (values_in board s registers) (element_count board + n) ≡ slice_index registers n
register_value board s registers n =
    let size = board_values_length board s in
    ap (λ k. slice_index (values_in board s registers) (k + n)) (sym size)
    ∙ back_at (map (element board s) (numbers 0 (element_count board))) registers n

-- a list that has each value is the values
pub values_are : (board : BoardParts) (s : BoardState) (registers values : List ℕ) (n : ℕ)
    → length values ≡ element_count board + length registers → length registers ≤ n
    → ((i : ℕ) → i < element_count board + n → slice_index values i ≡ slice_index (values_in board s registers) i)
    → values ≡ values_in board s registers
values_are board s registers values n size all each =
    same_number_lists values (values_in board s registers) (size
    ∙ sym (values_length board s registers)) (λ i below. each i (omega arith))

-- ---- the widths of a job's elements

-- those of both sides
pub widths_count : (job : Job) → IsJob job
    → length job.relation.shape.widths ≡ element_count job.board + job.machine.registers
unfolding shape_of
widths_count job is =
    let whole : length job.relation.shape.widths ≡ length (shape_of job.board job.machine).widths = ap
    (λ (s : Shape). length s.widths) is.matched.parts.shape in
    let board_widths = map (λ (e : Element). e.width) (elements_of job.board) in
    let formed = is.machine.formed in
    omega (
      arith,
      whole,
      length-append board_widths (take job.machine.registers job.machine.shape.widths),
      length-map (elements_of job.board) (λ (e : Element). e.width),
      length-take-le job.machine.registers job.machine.shape.widths (omega (arith, formed.elements, formed.registers)),
    )

pub widths_few : (job : Job) → IsJob job → length job.relation.shape.widths ≤ 174
widths_few job is =
    omega (
      arith,
      widths_count job is,
      count_of job.board,
      words_few job.board,
      is.board.few_flipflops,
      is.machine.right.registers,
    )

-- ---- values of a pair whose states fit are words

-- a bit
num_below : (b : Bool) → num b < 2 ^ 1
num_below true = omega arith
num_below false = omega arith

-- what an element has in a state that fits
value_in : (board : BoardParts) (s : BoardState) (e : What) → Fits board s → value_of s e < 2 ^ bits_of board e
value_in board s (Register n) fits = fits.regs n
value_in board s Q fits = fits.q
value_in board s Mar fits = fits.mar
value_in board s Ir fits = fits.ir
value_in board s (FlipFlop n) fits = num_below (bit_of s.flips n)
value_in board s Pc fits = fits.seq.pc
value_in board s R fits = fits.seq.r
value_in board s (StackWord n) fits = fits.seq.words n

element_in : (board : BoardParts) (s : BoardState) (n : ℕ) → Fits board s → n < element_count board
    → element board s n < 2 ^ unwrap_or (element_width board n) 0
element_in board s n fits below = rw (width_is board n below) (value_in board s (element_of board n) fits)

-- the width of an element of the board is that of the shape
pub board_width : (job : Job) → IsJob job → (n : ℕ) → n < element_count job.board
    → slice_index job.relation.shape.widths n ≡ unwrap_or (element_width job.board n) 0
unfolding shape_of
board_width job is n below =
    let widths = map (λ (e : Element). e.width) (elements_of job.board) in
    let shape = ap (λ (s : Shape). s.widths) is.matched.parts.shape in
    ap (λ xs. slice_index xs n) shape
    ∙ front_at widths (take job.machine.registers job.machine.shape.widths) n
    (omega (arith, length-map (elements_of job.board) (λ (e : Element). e.width)))
    ∙ sym (unwrap_or-slice_get widths n 0)
    ∙ ap (λ x. unwrap_or x 0) (slice_get-map (λ (e : Element). e.width) (elements_of job.board) n)

-- and that of a register that of the machine's shape
pub register_width : (job : Job) → IsJob job → (n : ℕ) → n < job.machine.registers
    → slice_index job.relation.shape.widths (element_count job.board + n) ≡ slice_index job.machine.shape.widths n
unfolding shape_of
register_width job is n below =
    let widths = map (λ (e : Element). e.width) (elements_of job.board) in
    let size : length widths ≡ element_count job.board = length-map (elements_of job.board)
    (λ (e : Element). e.width) in
    ap (λ (s : Shape). slice_index s.widths (element_count job.board + n)) is.matched.parts.shape
    ∙ ap (λ k. slice_index (widths ++ take job.machine.registers job.machine.shape.widths) (k + n)) (sym size)
    ∙ back_at widths (take job.machine.registers job.machine.shape.widths) n
    ∙ take_at job.machine.registers job.machine.shape.widths n below

each_word : (job : Job) (pair : Pair) → IsJob job → BothFit job pair → (i : ℕ) → i < length job.relation.shape.widths
    → slice_index (values_of job.board pair) i < 2 ^ slice_index job.relation.shape.widths i
each_word job pair is fit i below = elim (cases_lt i (element_count job.board)) [
  | inl before ↦ rw (board_width job is i before, board_value job.board pair.board pair.machine.registers i before)
      (element_in job.board pair.board i fit.board before)
  | inr past ↦ (let place : element_count job.board + (i - element_count job.board) ≡ i = omega arith in
      let n = i - element_count job.board in
      let inside : n < job.machine.registers = omega (arith, widths_count job is) in
      subst (λ k. slice_index (values_of job.board pair) k < 2 ^ slice_index job.relation.shape.widths k) place
      (rw (register_width job is n inside, register_value job.board pair.board pair.machine.registers n)
      (fit.machine.registers n inside)))
]

pub pair_words : (job : Job) (pair : Pair) → IsJob job → BothFit job pair
    → AreWords job.relation.shape.widths (values_of job.board pair)
pair_words job pair is fit = record {
  count = values_length job.board pair.board pair.machine.registers
      ∙ omega (arith, widths_count job is, fit.machine.count);
  each = each_word job pair is fit;
}

-- and the memory is an image
pub pair_image : (job : Job) (pair : Pair) → IsJob job → BothFit job pair
    → IsImage job.relation.shape pair.machine.memory
unfolding shape_of
pair_image job pair is fit = rw is.matched.parts.shape (record { size = fit.machine.size; words = fit.machine.memory })
