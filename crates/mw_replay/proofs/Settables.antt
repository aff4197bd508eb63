-- The elements of both sides, and the values of the free ones.
use Rattle.std.proofs.Common.{◌≡◌, ℕ, zero, suc, ◌+◌, ◌-◌, ◌<◌, ◌≤◌, ◌^◌, List, [], ◌∷◌, ◌++◌, length, map, Option}
use Rattle.std.proofs.Common.{Some, None, option_map, slice_get, slice_index, Bool, true, false, cond, lit≤, refl, sym}
use Rattle.std.proofs.Common.{ap, ◌∙◌, subst, inl, inr, arith}
use Rattle.std.specs.Prelude.{filter, unwrap_or}
use Rattle.std.proofs.Math.Pow.{pow_mono}
use Rattle.std.proofs.lemmas.Bool.{cases_lt}
use Rattle.std.proofs.lemmas.List.{length-map, map-append}
use Rattle.std.proofs.lemmas.Nat.{pow_pos}
use Rattle.std.proofs.lemmas.Option.{slice_get-map}
use Rattle.mw_board.specs.Elements.{element_count, element_width}
use Rattle.mw_cycle.specs.Boundary.{numbers}
use Rattle.mw_cycle.specs.Environment.{Environment, IsEnvironment}
use Rattle.mw_expr.specs.Values.{IsImage}
use Rattle.mw_rel.specs.Begin.{IsBegin, free_elements}
use Rattle.mw_rel.specs.Free.{is_free, numbered}
use Rattle.mw_rel.specs.Job.{Job, IsJob, shape_of}
use Rattle.mw_rel.specs.Relation.{Boundary}
use Rattle.mw_rel.proofs.Completed.{free_more, numbers_more}
use Rattle.mw_rel.proofs.Elements.{board_width, numbers_length, register_width, widths_count}
use Rattle.mw_rel.proofs.Standing.{board_address}
use Rattle.mw_sim.specs.Settings.{Settings, AreSettings, bound_of}
use Rattle.mw_sim.proofs.Starts.{width_few}
use Rattle.mw_replay.specs.Counter.{IsCounter}
use Rattle.mw_replay.specs.CounterText.{settable, settables_of}

-- ---- widths

width_in : (width : Option ℕ) → ((w : ℕ) → width ≡ Some w → w ≤ 32) → unwrap_or width 0 ≤ 32
width_in (Some w) few = few w refl
width_in None few = lit≤ tt

-- no element has over 32 bits
pub width_most : (job : Job) → IsJob job → (n : ℕ) → n < length job.relation.shape.widths
    → slice_index job.relation.shape.widths n ≤ 32
width_most job is n below = elim (cases_lt n (element_count job.board)) [
  | inl before ↦ subst (λ w. w ≤ 32) (sym (board_width job is n before))
      (width_in (element_width job.board n) (λ w width. width_few job.board n w is.board width))
  | inr past ↦ (let i = n - element_count job.board in
      let place : element_count job.board + i ≡ n = omega arith in
      let inside : i < job.machine.registers = omega (arith, widths_count job is) in
      let formed = is.machine.formed in
      let known : i < length job.machine.shape.widths = omega (arith, formed.registers, formed.elements) in
      subst (λ k. slice_index job.relation.shape.widths k ≤ 32) place
      (subst (λ w. w ≤ 32) (sym (register_width job is i inside)) (is.machine.right.widths i known).1))
]

pub bound_some : (w : ℕ) → 0 < 2 ^ w
bound_some w = pow_pos w

pub bound_most : (w : ℕ) → w ≤ 32 → 2 ^ w ≤ 2 ^ 32
bound_most w few = pow_mono few

-- ---- lists of numbers

-- what is made of numbers up to one more
pub made_more : {A : Type 0} (f : ℕ → A) (n : ℕ)
    → map f (numbers 0 n) ++ (f n ∷ []) ≡ map f (numbers 0 (n + 1))
made_more f n =
    let more : n + 1 ≡ suc n = omega arith in
    let place : 0 + n ≡ n = omega arith in
    sym (ap (λ k. map f (numbers 0 k)) more
    ∙ ap (map f) (numbers_more 0 n ∙ ap (λ k. numbers 0 n ++ k ∷ []) place)
    ∙ map-append f (numbers 0 n) (n ∷ []))

-- and of those that pass a test
pub chosen_more : (f : ℕ → ℕ) (p : ℕ → Bool) (n : ℕ) (b : Bool) → p n ≡ b
    → map f (filter p (numbers 0 n)) ++ cond b (f n ∷ []) [] ≡ map f (filter p (numbers 0 (n + 1)))
chosen_more f p n true is = sym (ap (map f) (free_more p n true is) ∙ map-append f (filter p (numbers 0 n)) (n ∷ []))
chosen_more f p n false is = sym (ap (map f) (free_more p n false is) ∙ map-append f (filter p (numbers 0 n)) [])

-- one number of some
pub numbers_at : (from count i : ℕ) → i < count → slice_get (numbers from count) i ≡ Some (from + i)
numbers_at from zero i below = absurd (omega arith)
numbers_at from (suc count) zero below = ap Some (omega arith)
numbers_at from (suc count) (suc i) below =
    let place : from + 1 + i ≡ from + suc i = omega arith in
    numbers_at (from + 1) count i (omega arith) ∙ ap Some place

-- each of them is below the end
numbers_below : (from count bound i : ℕ) → from + count ≤ bound → i < length (numbers from count)
    → slice_index (numbers from count) i < bound
numbers_below from zero bound i most below = absurd (omega arith)
numbers_below from (suc count) bound zero most below = omega arith
numbers_below from (suc count) bound (suc i) most below =
    numbers_below (from + 1) count bound i (omega arith) (omega arith)

-- so is each of those that pass a test
chosen_on : (x : ℕ) (xs : List ℕ) (bound : ℕ) (b : Bool) → x < bound
    → ((i : ℕ) → i < length xs → slice_index xs i < bound) → (i : ℕ) → i < length (cond b (x ∷ xs) xs)
    → slice_index (cond b (x ∷ xs) xs) i < bound
chosen_on x xs bound true here rest zero below = here
chosen_on x xs bound true here rest (suc i) below = rest i (omega arith)
chosen_on x xs bound false here rest i below = rest i below

chosen_below : (p : ℕ → Bool) (xs : List ℕ) (bound : ℕ) → ((i : ℕ) → i < length xs → slice_index xs i < bound)
    → (i : ℕ) → i < length (filter p xs) → slice_index (filter p xs) i < bound
chosen_below p [] bound each i below = absurd (omega arith)
chosen_below p (x ∷ xs) bound each i below =
    chosen_on x (filter p xs) bound (p x) (each 0 (omega arith))
    (chosen_below p xs bound (λ k inside. each (suc k) (omega arith))) i below

-- one item of what is made of some
made_at : (f : ℕ → ℕ) (xs : List ℕ) (i : ℕ) → i < length xs → slice_index (map f xs) i ≡ f (slice_index xs i)
made_at f [] i below = absurd (omega arith)
made_at f (x ∷ rest) zero below = refl
made_at f (x ∷ rest) (suc i) below = made_at f rest i (omega arith)

-- ---- what is given

-- how many elements a line may name
pub settables_count : (job : Job) (boundary : Boundary)
    → length (settables_of job boundary) ≡ length job.relation.shape.widths
settables_count job boundary =
    length-map (numbers 0 (length job.relation.shape.widths)) (settable job boundary)
    ∙ numbers_length 0 (length job.relation.shape.widths)

-- the bound of each
pub bound_is : (job : Job) (boundary : Boundary) (n : ℕ) → n < length job.relation.shape.widths
    → bound_of (slice_get (settables_of job boundary) n) ≡ 2 ^ slice_index job.relation.shape.widths n
bound_is job boundary n below =
    let all = numbers 0 (length job.relation.shape.widths) in
    let place : 0 + n ≡ n = omega arith in
    ap bound_of (slice_get-map (settable job boundary) all n
    ∙ ap (option_map (settable job boundary)) (numbers_at 0 (length job.relation.shape.widths) n below ∙ ap Some place))

begin_values : (job : Job) (boundary : Boundary) (given : Settings)
    → AreSettings job.board (settables_of job boundary) given
    → (i : ℕ) → i < length (map (slice_index given.values) (free_elements job boundary))
    → slice_index (map (slice_index given.values) (free_elements job boundary)) i
    < 2 ^ slice_index job.relation.shape.widths (slice_index (free_elements job boundary) i)
begin_values job boundary given is i below =
    let count = length job.relation.shape.widths in
    let free = free_elements job boundary in
    let inside : i < length free = omega (arith, length-map free (slice_index given.values)) in
    let small = chosen_below (is_free boundary) (numbers 0 count) count
    (λ k there. numbers_below 0 count count k (omega arith) there) i inside in
    let known : slice_index free i < length (settables_of job boundary) = omega (arith, settables_count job boundary) in
    rw (made_at (slice_index given.values) free i inside)
    (subst (λ bound. slice_index given.values (slice_index free i) < bound)
    (bound_is job boundary (slice_index free i) small) (is.values.fit (slice_index free i) known))

image_of : (job : Job) (memory : List ℕ) → IsJob job → length memory ≡ 2 ^ job.board.address
    → ((a : ℕ) → slice_index memory a < 2 ^ job.board.width) → IsImage job.relation.shape memory
unfolding shape_of
image_of job memory is size each =
    let word : job.board.width ≡ job.relation.shape.word =
    sym (ap (λ s. s.word) is.matched.parts.shape ∙ is.matched.word) in
    record {
      size = size ∙ ap (λ n. 2 ^ n) (sym (board_address job is));
      words = λ a. subst (λ w. slice_index memory a < 2 ^ w) word (each a);
    }

-- what is given at a boundary is a counter of the job
pub is_counter : (job : Job) (n : ℕ) (given : Settings) (values : List ℕ) (env : Environment) → IsJob job
    → n < length job.relation.boundaries → AreSettings job.board (settables_of job (numbered job n)) given
    → values ≡ map (slice_index given.values) (free_elements job (numbered job n)) → IsEnvironment job.board env
    → IsCounter job (record { boundary = n; begin = record { values = values; memory = given.memory; env = env } })
is_counter job n given values env is below in_range same outside =
    let chosen : IsBegin job (numbered job n) (record {
      values = map (slice_index given.values) (free_elements job (numbered job n));
      memory = given.memory;
      env = env;
    }) = record {
      count = length-map (free_elements job (numbered job n)) (slice_index given.values);
      values = begin_values job (numbered job n) given in_range;
      memory = image_of job given.memory is in_range.image.each in_range.image.fit;
    } in
    record {
      there = below;
      begin = subst
          (λ (vs : List ℕ). IsBegin job (numbered job n) (record { values = vs; memory = given.memory; env = env }))
          (sym same) chosen;
      env = outside;
    }
