-- The start of a console run is one of the job.
use Rattle.std.proofs.Common.{◌≡◌, ℕ, zero, suc, ◌<◌, ◌^◌, List, [], ◌∷◌, length, map, slice_index, Bool, true, false}
use Rattle.std.proofs.Common.{◌&&◌, ◌==◌, refl, ap, ◌∙◌, subst, inl, inr, arith}
use Rattle.std.specs.Prelude.{All, if◌then◌else◌}
use Rattle.std.proofs.lemmas.Bool.{and_parts, cases_lt, eqb-true}
use Rattle.std.proofs.lemmas.List.{length-map}
use Rattle.std.proofs.lemmas.List.Elements.{All-get_or}
use Rattle.std.proofs.lemmas.Nat.{pow_pos}
use Rattle.mw_cycle.specs.Environment.{IsEnvironment, values_of}
use Rattle.mw_cycle.specs.Series.{width_of}
use Rattle.mw_cycle.specs.declared.series.Series.{Series}
use Rattle.mw_cycle.specs.declared.series.Series.TheVariants.{Inputs, Line, Noise, Wait}
use Rattle.mw_expr.specs.Values.{IsImage}
use Rattle.mw_macro.specs.DescribedStep.{AreInputs}
use Rattle.mw_rel.specs.Begin.{IsBegin, free_elements}
use Rattle.mw_rel.specs.Free.{numbered}
use Rattle.mw_rel.specs.Job.{Job, IsJob, shape_of}
use Rattle.mw_rel.proofs.Relations.{accepted_are_solved}
use Rattle.mw_replay.specs.Counter.{IsCounter}
use Rattle.mw_replay.proofs.Starts.{past_end}
use Rattle.mw_pal.specs.Talk.{first_value, only_inputs, pal_counter}
use Rattle.mw_pal.specs.Fits.{is_program_counter, FitsPal}
use Rattle.mw_pal.specs.Source.{IsMemory}

-- a job has a boundary
pub boundary_some : (job : Job) → IsJob job → 0 < length job.relation.boundaries
boundary_some job is =
    let relation = is.matched.relation in
    let solved = (accepted_are_solved job.relation relation.formed).0 relation.accepted in
    omega (arith, solved.some)

-- ---- values

-- octal 200 is a word of the program counter, and 0 one of each element
value_word : (b : Bool) (w : ℕ) → (b ≡ true → w ≡ 12) → (if b then 0o200 else 0) < 2 ^ w
value_word true w wide = rw (wide refl) (omega arith)
value_word false w wide = pow_pos w

is_wide : (a b : Bool) (w : ℕ) → (a && (b && (w == 12))) ≡ true → w ≡ 12
is_wide a b w is = eqb-true w 12 (and_parts b (w == 12) (and_parts a (b && (w == 12)) is).1).1

first_word : (job : Job) (e : ℕ) → first_value job e < 2 ^ slice_index job.relation.shape.widths e
first_word job e =
    value_word (is_program_counter job e) (slice_index job.relation.shape.widths e) (is_wide _ _ _)

-- one item of what is made of some
made_at : (f : ℕ → ℕ) (xs : List ℕ) (i : ℕ) → i < length xs → slice_index (map f xs) i ≡ f (slice_index xs i)
made_at f [] i below = absurd (omega arith)
made_at f (x ∷ rest) zero below = refl
made_at f (x ∷ rest) (suc i) below = made_at f rest i (omega arith)

-- ---- memories

-- each word of a memory, and 0 past its end, has 12 bits
word_low : (memory : List ℕ) (i : ℕ) → All (λ word. word < 4096) memory → slice_index memory i < 4096
word_low memory i words = elim (cases_lt i (length memory)) [
  | inl inside ↦ All-get_or (λ word. word < 4096) memory i 0 inside words
  | inr past ↦ rw (past_end memory i past) (omega arith)
]

image_is : (job : Job) (memory : List ℕ) → IsJob job → FitsPal job → IsMemory memory
    → IsImage job.relation.shape memory
unfolding shape_of
image_is job memory is fits whole =
    let address : job.relation.shape.address ≡ 12 = ap (λ s. s.address) is.matched.parts.shape ∙ fits.address in
    let word : job.relation.shape.word ≡ 12 = ap (λ s. s.word) is.matched.parts.shape ∙ fits.word in
    record {
      size = rw address whole.whole;
      words = λ i. rw word (word_low memory i whole.words);
    }

-- ---- the start

-- the values of the free elements and the memory are a choice at the first boundary
pub begins : (job : Job) (memory inputs : List ℕ) → IsJob job → FitsPal job → IsMemory memory
    → IsBegin job (numbered job 0) (pal_counter job memory inputs).begin
begins job memory inputs is fits whole =
    let free = free_elements job (numbered job 0) in
    record {
      count = length-map free (first_value job);
      values = λ i below.
          let inside : i < length free = omega (arith, length-map free (first_value job)) in
          rw (made_at (first_value job) free i inside) (first_word job (slice_index free i));
      memory = image_is job memory is fits whole;
    }

-- inputs that are words of the machine are an environment of the board
list_low : (board_width word : ℕ) (inputs : List ℕ) (series : Series) (i : ℕ) → word ≡ board_width
    → ((n : ℕ) → slice_index inputs n < 2 ^ word)
    → slice_index (values_of (only_inputs inputs) series) i < 2 ^ width_of board_width series
list_low board_width word inputs Inputs i same words = subst (λ w. slice_index inputs i < 2 ^ w) same (words i)
list_low board_width word inputs Line i same words = omega arith
list_low board_width word inputs Noise i same words = omega arith
list_low board_width word inputs Wait i same words = omega arith

inputs_are : (job : Job) (inputs : List ℕ) → IsJob job → AreInputs job.machine inputs
    → IsEnvironment job.board (only_inputs inputs)
inputs_are job inputs is words =
    record { values = λ series i. list_low job.board.width job.machine.shape.word inputs series i is.matched.word words }

-- so it is a counter of the job
pub counts : (job : Job) (memory inputs : List ℕ) → IsJob job → FitsPal job → IsMemory memory
    → AreInputs job.machine inputs → IsCounter job (pal_counter job memory inputs)
counts job memory inputs is fits whole words = record {
  there = boundary_some job is;
  begin = begins job memory inputs is fits whole;
  env = inputs_are job inputs is words;
}
