-- The case of a start: what its first segment and its described step decide, bit by bit; and the cases of a boundary.
use Rattle.std.specs.Prelude.{◌≡◌, ℕ, zero, suc, List, [], ◌∷◌, ◌++◌, map, Bool, true, false, if◌then◌else◌, Option}
use Rattle.std.specs.Prelude.{Some, slice_get}
use Rattle.std.specs.Option.{is_none, unwrap_or}
use Rattle.mw_term.specs.declared.decided.DecidedKind.{DecidedKind}
use Rattle.mw_term.specs.declared.decided.DecidedKind.TheVariants.{Branch}
use Rattle.mw_term.specs.declared.decided.Decided.{Decided}
use Rattle.mw_cycle.specs.Boundary.{first_boundary}
use Rattle.mw_cycle.specs.Decided.{decided, decided_of}
use Rattle.mw_macro.specs.Branches.{branches_of}
use Rattle.mw_rel.specs.Job.{Job}
use Rattle.mw_rel.specs.Certified.{board_run, at_cycle, line_at}
use Rattle.mw_cycle.specs.Run.{given_to_cycle}
use Rattle.mw_rel.specs.Start.{Start, IsStart, addresses_of}

-- the decided bits of cycle n of its run; a wait decides nothing
abbrev pub bits_of_cycle : Job → Start → (n : ℕ) → List Decided
bits_of_cycle job start n = decided_of job.board job.store (board_run job start n).state
    (given_to_cycle job.board job.store start.env start.pair.board n)

-- those of its first n cycles, in their order
unfoldable pub bits_of_cycles : Job → Start → (n : ℕ) → List Decided
bits_of_cycles job start zero = []
bits_of_cycles job start (suc n) = bits_of_cycles job start n ++ bits_of_cycle job start n

-- the cycle at which its first segment ends; nothing where the segment is late
abbrev pub end_of : Job → Start → Option ℕ
end_of job start = first_boundary (addresses_of job) (at_cycle job start) start.boundary.bound

-- how many cycles the segment has: those to its end or, where it is late, the bound's number
abbrev pub cycles_of : Job → Start → ℕ
cycles_of job start = unwrap_or (end_of job start) start.boundary.bound

-- the bound's number of cycles passes without a boundary
abbrev pub is_late : Job → Start → Bool
is_late job start = is_none (end_of job start)

-- the branch bits of its described step: the request is the line of the clock that makes the segment's first cycle, and
-- the inputs begin at number 0
abbrev pub bits_of_step : Job → Start → List Decided
bits_of_step job start = map (decided Branch)
    (branches_of job.machine start.pair.machine (line_at job start 0) start.env.inputs 0)

-- its decided bits: those of the cycles of its segment and, where this isn't late, those of its step behind them
unfoldable pub case_of : Job → Start → List Decided
case_of job start = bits_of_cycles job start (cycles_of job start)
    ++ (if is_late job start then [] else bits_of_step job start)

-- a start of the job at the boundary with a number
pub record IsStartAt (job : Job) (number : ℕ) (start : Start) : Type 0 where
  pub begins : IsStart job start
  pub there : slice_get job.relation.boundaries number ≡ Some start.boundary

-- the bits are those of a start at the boundary: a feasible case
pub record IsCase (job : Job) (number : ℕ) (bits : List Decided) : Type 0 where
  pub start : Start
  pub starts : IsStartAt job number start
  pub bits_are : case_of job start ≡ bits

-- the bits are the first ones of a start at the boundary: a feasible prefix
pub record IsFeasiblePrefix (job : Job) (number : ℕ) (bits : List Decided) : Type 0 where
  pub start : Start
  pub starts : IsStartAt job number start
  pub rest : List Decided
  pub bits_are : case_of job start ≡ bits ++ rest

-- ---- the order of lists of bits

-- the first place at which two lists differ has a bit of one kind, which is 0 in the one that comes before
pub record IsBefore (first second : List Decided) : Type 0 where
  pub shared : List Decided
  pub kind : DecidedKind
  pub first_rest : List Decided
  pub second_rest : List Decided
  pub first_is : first ≡ shared ++ decided kind false ∷ first_rest
  pub second_is : second ≡ shared ++ decided kind true ∷ second_rest

-- a list is the beginning of another, which goes on
pub record IsProperPrefix (first second : List Decided) : Type 0 where
  pub next : Decided
  pub rest : List Decided
  pub second_is : second ≡ first ++ next ∷ rest
