-- A start that an assignment gives is that of a counter.
use Rattle.std.proofs.Common.{◌≡◌, ℕ, zero, suc, ◌+◌, ◌<◌, ◌^◌, List, length, map, slice_index, sym, ap, ◌∙◌, subst}
use Rattle.std.proofs.Common.{arith}
use Rattle.std.specs.Prelude.{All, slice_index_or}
use Rattle.std.proofs.lemmas.List.{get_or-map, length-map}
use Rattle.std.proofs.lemmas.List.Elements.{All-filter}
use Rattle.std.proofs.lemmas.Option.{slice_get_within}
use Rattle.mw_term.specs.declared.decided.Decided.{Decided}
use Rattle.mw_cycle.specs.Boundary.{numbers}
use Rattle.mw_cycle.specs.Environment.{IsEnvironment}
use Rattle.mw_rel.specs.Begin.{Begin, IsBegin, IsCompleted, free_elements}
use Rattle.mw_rel.specs.Free.{is_free, numbered}
use Rattle.mw_rel.specs.InRelation.{InRelation, Pair, values_of}
use Rattle.mw_rel.specs.Job.{Job, IsJob, shape_of}
use Rattle.mw_rel.specs.Relation.{Boundary}
use Rattle.mw_rel.proofs.Elements.{pair_words}
use Rattle.mw_rel.specs.Start.{Start}
use Rattle.mw_course.specs.Begins.{IsChosen}
use Rattle.mw_fork.specs.Begins.{IsDiffering}
use Rattle.mw_replay.specs.Counter.{IsCounter}

-- ---- the values of a pair's free elements are words of these

number_below : (from count k d : ℕ) → k < length (numbers from count)
    → slice_index_or (numbers from count) k d < from + count
number_below from zero k d inside = absurd (omega (arith, inside))
number_below from (suc count) zero d inside = omega arith
number_below from (suc count) (suc k) d inside =
    let below = number_below (from + 1) count k d (omega (arith, inside)) in omega (arith, below)

free_is_element : (job : Job) (boundary : Boundary)
    → All (λ e. e < length job.relation.shape.widths) (free_elements job boundary)
free_is_element job boundary =
    let n = length job.relation.shape.widths in
    All-filter (is_free boundary) (λ e. e < n) (numbers 0 n)
    (λ k d inside. let below = number_below 0 n k d inside in omega (arith, below))

value_within : (job : Job) (boundary : Boundary) (pair : Pair) → IsJob job → InRelation job boundary pair → (i : ℕ)
    → i < length (free_elements job boundary)
    → slice_index (map (slice_index (values_of job.board pair)) (free_elements job boundary)) i
    < 2 ^ slice_index job.relation.shape.widths (slice_index (free_elements job boundary) i)
value_within job boundary pair is related i inside =
    let elements = free_elements job boundary in
    let words = pair_words job pair is (record { board = related.board_fits; machine = related.machine_fits }) in
    let below = free_is_element job boundary i 0 inside in
    rw (get_or-map (slice_index (values_of job.board pair)) elements i 0 0 inside)
    (words.each (slice_index elements i) below)

pub begins : (job : Job) (number : ℕ) (begin : Begin) (pair : Pair) → IsJob job
    → IsCompleted job (numbered job number) begin pair → IsBegin job (numbered job number) begin
unfolding shape_of
begins job number begin pair is completed =
    let boundary = numbered job number in
    let elements = free_elements job boundary in
    let count : length begin.values ≡ length elements =
    ap length (sym completed.values) ∙ length-map elements (slice_index (values_of job.board pair)) in
    let shape = is.matched.parts.shape in
    record {
      count = count;
      values = λ i inside. subst
          (λ vs. slice_index vs i < 2 ^ slice_index job.relation.shape.widths (slice_index elements i))
          completed.values (value_within job boundary pair is completed.related i (omega (arith, inside, count)));
      memory = record {
        size = rw shape (ap length (sym completed.memory) ∙ completed.related.machine_fits.size);
        words = λ i. rw shape (subst (λ (m : List ℕ). slice_index m i < 2 ^ job.machine.shape.word) completed.memory
            (completed.related.machine_fits.memory i));
      };
    }

-- ---- the counter of a start

pub counter_of_chosen : (job : Job) (number : ℕ) (begin : Begin) (start : Start) → IsJob job
    → IsChosen job number begin start → IsCounter job (record { boundary = number; begin = begin })
counter_of_chosen job number begin start is chosen = record {
  there = slice_get_within job.relation.boundaries number start.boundary chosen.starts.there;
  begin = begins job number begin start.pair is chosen.pair;
  env = subst (IsEnvironment job.board) chosen.env chosen.starts.begins.env;
}

-- of one that differs
pub counter_of_start : (job : Job) (number : ℕ) (bits : List Decided) (begin : Begin) → IsJob job
    → IsDiffering job number bits begin → IsCounter job (record { boundary = number; begin = begin })
counter_of_start job number bits begin is differing =
    counter_of_chosen job number begin differing.start is differing.chosen
