-- What gives one pair in relation: values of the free elements, and a memory.
use Rattle.std.specs.Prelude.{◌≡◌, ℕ, ◌<◌, ◌^◌, List, length, map, filter, slice_index}
use Rattle.mw_cycle.specs.Boundary.{numbers}
use Rattle.mw_cycle.specs.Environment.{Environment}
use Rattle.mw_expr.specs.Values.{IsImage}
use Rattle.mw_rel.specs.Relation.{Boundary}
use Rattle.mw_rel.specs.Free.{is_free, numbered}
use Rattle.mw_rel.specs.InRelation.{Pair, InRelation, values_of}
use Rattle.mw_rel.specs.Job.{Job, IsJob}

-- the free elements, by number
abbrev pub free_elements : Job → Boundary → List ℕ
free_elements job boundary = filter (is_free boundary) (numbers 0 (length job.relation.shape.widths))

-- the values of the free elements by number, the memory of both sides, and an environment
pub record Begin : Type 0 where
  pub values : List ℕ
  pub memory : List ℕ
  pub env : Environment

-- there is a value for each free element, which is a word of its width, and the memory has each of its words
pub record IsBegin (job : Job) (boundary : Boundary) (begin : Begin) : Type 0 where
  pub count : length begin.values ≡ length (free_elements job boundary)
  pub values : (i : ℕ) → i < length begin.values
      → slice_index begin.values i
      < 2 ^ slice_index job.relation.shape.widths (slice_index (free_elements job boundary) i)
  pub memory : IsImage job.relation.shape begin.memory

-- the values of the free elements of a pair
abbrev pub free_values : Job → Boundary → Pair → List ℕ
free_values job boundary pair = map (slice_index (values_of job.board pair)) (free_elements job boundary)

-- the pair is in relation at the boundary, with these free values and this memory
pub record IsCompleted (job : Job) (boundary : Boundary) (begin : Begin) (pair : Pair) : Type 0 where
  pub related : InRelation job boundary pair
  pub values : free_values job boundary pair ≡ begin.values
  pub memory : pair.machine.memory ≡ begin.memory

-- each choice of free values and a memory gives a pair in relation
abbrev pub EachChoiceGivesAPair : Type 0
EachChoiceGivesAPair = (job : Job) (n : ℕ) (begin : Begin) → IsJob job → n < length job.relation.boundaries
    → IsBegin job (numbered job n) begin → (pair : Pair) × IsCompleted job (numbered job n) begin pair
