-- The boundaries of a job by number, and the elements that are free at one.
use Rattle.std.specs.Prelude.{◌≡◌, ℕ, ◌<◌, List, [], length, Bool, true, not, ◌==◌, Some, slice_get, slice_index}
use Rattle.std.specs.Prelude.{slice_index_or}
use Rattle.std.specs.List.{list_any}
use Rattle.mw_expr.specs.Values.{value}
use Rattle.mw_rel.specs.InRelation.{Pair, InRelation, values_of}
use Rattle.mw_rel.specs.Job.{Job, IsJob}
use Rattle.mw_rel.specs.Lines.{Line}
use Rattle.mw_rel.specs.Relation.{Boundary}

-- no boundary
abbrev pub no_boundary : Boundary
no_boundary = record { address = 0; bound = 0; sp = 0; lines = [] }

-- the boundary of a job with a number, from 0; it is only asked of those that there are
abbrev pub numbered : Job → ℕ → Boundary
numbered job n = slice_index_or job.relation.boundaries n no_boundary

-- an element is on no left side at a boundary
abbrev pub is_free : Boundary → ℕ → Bool
is_free boundary e = not (list_any (λ line. line.left == e) boundary.lines)

-- two pairs have the same value of each free element, and the machine's memory is the same
pub record AreFreelyAlike (job : Job) (boundary : Boundary) (p q : Pair) : Type 0 where
  pub values : (e : ℕ) → is_free boundary e ≡ true
      → slice_index (values_of job.board p) e ≡ slice_index (values_of job.board q) e
  pub memory : p.machine.memory ≡ q.machine.memory

-- Two pairs in relation at a boundary that are freely alike are one.
abbrev pub PairsAreOne : Type 0
PairsAreOne = (job : Job) (n : ℕ) (p q : Pair) → IsJob job → n < length job.relation.boundaries
    → InRelation job (numbered job n) p → InRelation job (numbered job n) q → AreFreelyAlike job (numbered job n) p q
    → p ≡ q

-- The right side of a line has one value over two lists of values that agree on the elements that are free at its
-- boundary.
abbrev pub RightsReadFreeElements : Type 0
RightsReadFreeElements = (job : Job) (number : ℕ) (line : Line) (one two memory : List ℕ) → IsJob job
    → number < length job.relation.boundaries
    → (i : ℕ) → slice_get (numbered job number).lines i ≡ Some line
    → ((e : ℕ) → is_free (numbered job number) e ≡ true → slice_index one e ≡ slice_index two e)
    → value job.relation.shape one memory line.right ≡ value job.relation.shape two memory line.right
