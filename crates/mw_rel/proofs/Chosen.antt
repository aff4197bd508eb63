-- The pair that has the values of all elements is the one that was asked for.
use Rattle.std.proofs.Common.{◌≡◌, ℕ, zero, suc, ◌+◌, ◌-◌, ◌<◌, ◌^◌, List, [], ◌∷◌, ◌++◌, map, drop, length, Bool, true}
use Rattle.std.proofs.Common.{false, not, refl, sym, ap, ◌∙◌, subst, inl, inr, arith}
use Rattle.std.specs.Prelude.{All, filter, cond, slice_index, if◌then◌else◌}
use Rattle.std.proofs.lemmas.Bool.{cases_lt}
use Rattle.std.proofs.lemmas.List.{take_all}
use Rattle.std.proofs.lemmas.Nat.{pow_pos}
use Rattle.mw_board.specs.Elements.{element_count}
use Rattle.mw_cycle.specs.Boundary.{numbers}
use Rattle.mw_cycle.specs.Elements.{element}
use Rattle.mw_cycle.specs.State.{BoardState}
use Rattle.mw_expr.specs.Values.{AreWords}
use Rattle.mw_macro.specs.DescribedStep.{kept}
use Rattle.mw_rel.specs.Begin.{Begin, IsBegin, IsCompleted, free_elements}
use Rattle.mw_rel.specs.Completed.{HoldsIn, free_before, free_value, value_by}
use Rattle.mw_rel.specs.Free.{is_free}
use Rattle.mw_rel.specs.InRelation.{Pair, BothFit, StandsAt, pair_of, values_in, values_of}
use Rattle.mw_rel.specs.Job.{Job, IsJob}
use Rattle.mw_rel.specs.Relation.{Boundary}
use Rattle.mw_rel.proofs.Completed.{free_more, place_within, given_values, own_value}
use Rattle.mw_rel.proofs.Elements.{front_at, back_at, widths_count, values_are, board_value, register_value}
use Rattle.mw_rel.proofs.Standing.{dropped_at, behind_count}

-- a free element stands among the free ones at the place that counts those before it
at_end : (p : ℕ → Bool) (n e : ℕ) (b : Bool) → p n ≡ b → p e ≡ true → e < n + 1
    → (e < n → slice_index (filter p (numbers 0 n)) (free_before p e) ≡ e)
    → slice_index (filter p (numbers 0 n) ++ cond b (n ∷ []) []) (free_before p e) ≡ e
at_end p n e b is free below before = elim (cases_lt e n) [
  | inl earlier ↦
      front_at (filter p (numbers 0 n)) (cond b (n ∷ []) []) (free_before p e) (place_within p e n free earlier)
      ∙ before earlier
  | inr late ↦ (let same : e ≡ n = omega arith in
      let here : b ≡ true = sym is ∙ ap p (sym same) ∙ free in
      let place : length (filter p (numbers 0 n)) + 0 ≡ free_before p e = omega (arith, ap (free_before p) same) in
      subst (λ k. slice_index (filter p (numbers 0 n) ++ cond b (n ∷ []) []) k ≡ e) place
      (back_at (filter p (numbers 0 n)) (cond b (n ∷ []) []) 0
      ∙ ap (λ (c : Bool). slice_index (cond c (n ∷ []) []) 0) here ∙ sym same))
]

pub place_is : (p : ℕ → Bool) (n e : ℕ) → p e ≡ true → e < n
    → slice_index (filter p (numbers 0 n)) (free_before p e) ≡ e
place_is p zero e free below = absurd (omega arith)
place_is p (suc n) e free below =
    let same : n + 1 ≡ suc n = omega arith in
    subst (λ k. slice_index (filter p (numbers 0 k)) (free_before p e) ≡ e) same
    (ap (λ xs. slice_index xs (free_before p e)) (free_more p n (p n) refl)
    ∙ at_end p n e (p n) refl free (omega arith) (λ earlier. place_is p n e free earlier))

-- the values of the free elements, at their places, and 0 at the others, are words of the elements' widths
free_below : (job : Job) (boundary : Boundary) (begin : Begin) (e : ℕ) (b : Bool) → is_free boundary e ≡ b
    → IsBegin job boundary begin → e < length job.relation.shape.widths
    → (if b then slice_index begin.values (free_before (is_free boundary) e) else 0)
    < 2 ^ slice_index job.relation.shape.widths e
free_below job boundary begin e true free is below =
    let p = is_free boundary in
    let n = length job.relation.shape.widths in
    let inside : free_before p e < length begin.values = omega (arith, is.count, place_within p e n free below) in
    subst (λ k. slice_index begin.values (free_before p e) < 2 ^ slice_index job.relation.shape.widths k)
    (place_is p n e free below) (is.values (free_before p e) inside)
free_below job boundary begin e false free is below = pow_pos (slice_index job.relation.shape.widths e)

pub free_words : (job : Job) (boundary : Boundary) (begin : Begin) (places : List ℕ) → IsBegin job boundary begin
    → length places ≡ length job.relation.shape.widths
    → ((e : ℕ) → e < length job.relation.shape.widths
    → slice_index places e ≡ free_value (is_free boundary) begin.values e)
    → AreWords job.relation.shape.widths places
free_words job boundary begin places is size placed = record {
  count = size;
  each = λ e below.
      rw (placed e below) (free_below job boundary begin e (is_free boundary e) refl is below);
}

-- ---- the pair that was asked for

-- a list that has the value of each element of the board's state, and behind them the registers
pub set_values : (job : Job) (state : BoardState) (values memory : List ℕ) → IsJob job
    → AreWords job.relation.shape.widths values
    → ((e : ℕ) → e < element_count job.board → element job.board state e ≡ slice_index values e)
    → values ≡ values_of job.board (pair_of state (kept (drop (element_count job.board) values) memory))
set_values job state values memory is words set =
    let count = element_count job.board in
    let registers = drop count values in
    let behind : length registers ≡ job.machine.registers = behind_count job values is words in
    values_are job.board state registers values (length registers) (omega (arith, words.count, widths_count job is))
    (omega arith)
    (λ i below. elim (cases_lt i count) [
      | inl before ↦ sym (set i before) ∙ sym (board_value job.board state registers i before)
      | inr past ↦ (let place : count + (i - count) ≡ i = omega arith in
          subst (λ k. slice_index values k ≡ slice_index (values_in job.board state registers) k) place
          (sym (dropped_at count values (i - count)) ∙ sym (register_value job.board state registers (i - count))))
    ])

unless : (b : Bool) → not b ≡ true → b ≡ false
unless true is = cc
unless false is = refl

chosen_is : (free : Bool) (given : ℕ) → free ≡ true → (if free then given else 0) ≡ given
chosen_is free given is = rw is refl

-- the values of the free elements are those given
pub chosen_values : (job : Job) (boundary : Boundary) (begin : Begin) (places values : List ℕ)
    → length values ≡ length job.relation.shape.widths
    → ((e : ℕ) → e < length values → slice_index places e ≡ free_value (is_free boundary) begin.values e)
    → ((e : ℕ) → e < length values
    → slice_index values e ≡ value_by job.relation.shape places begin.memory boundary.lines e)
    → IsBegin job boundary begin → map (slice_index values) (free_elements job boundary) ≡ begin.values
chosen_values job boundary begin places values size placed each is =
    let n = length job.relation.shape.widths in
    let p = is_free boundary in
    let whole : free_before p n ≡ length begin.values = sym is.count in
    given_values p (slice_index values) begin.values n
    (λ e below free. let inside : e < length values = omega arith in
    each e inside ∙ own_value job.relation.shape places begin.memory boundary.lines e (unless _ free)
    ∙ placed e inside ∙ chosen_is (p e) (slice_index begin.values (free_before p e)) free) (omega arith)
    ∙ take_all (free_before p n) begin.values (omega arith)

-- a pair with these values and this memory is the one that was asked for
pub completed : (job : Job) (boundary : Boundary) (begin : Begin) (values : List ℕ) (pair : Pair) → BothFit job pair
    → StandsAt boundary pair → values_of job.board pair ≡ values → pair.machine.memory ≡ begin.memory
    → All (HoldsIn job.relation.shape values begin.memory) boundary.lines
    → map (slice_index values) (free_elements job boundary) ≡ begin.values → IsCompleted job boundary begin pair
completed job boundary begin values pair fit stands same memory lines chosen = record {
  related = record {
    board_fits = fit.board;
    machine_fits = fit.machine;
    at = stands.at;
    sp = stands.sp;
    memory = stands.memory;
    lines = subst (λ xs. All (HoldsIn job.relation.shape xs pair.machine.memory) boundary.lines) (sym same)
        (subst (λ m. All (HoldsIn job.relation.shape values m) boundary.lines) (sym memory) lines);
  };
  values = ap (λ xs. map (slice_index xs) (free_elements job boundary)) same ∙ chosen;
  memory = memory;
}
