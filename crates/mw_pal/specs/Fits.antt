-- Which jobs PDP-8 programs fit.
use Rattle.std.specs.Prelude.{◌≡◌, ℕ, ◌<◌, length, codes, bytes_eq, Bool, true, not, ◌&&◌, ◌==◌, nat_lt, slice_index}
use Rattle.std.specs.List.{list_any, range_with_len}
use Rattle.mw_board.specs.Elements.{element_count}
use Rattle.mw_rel.specs.Free.{is_free, numbered}
use Rattle.mw_rel.specs.Job.{Job}
use Rattle.mw_replay.specs.CounterText.{name_of}

-- the element with a number is the described machine's register PC, and has 12 bits
abbrev pub is_program_counter : Job → ℕ → Bool
is_program_counter job e =
    not (nat_lt e (element_count job.board))
    && (bytes_eq (name_of job e) (codes "PC") && (slice_index job.relation.shape.widths e == 12))

-- so it is, and it is free at the first boundary
abbrev pub is_free_counter : Job → ℕ → Bool
is_free_counter job e = is_program_counter job e && is_free (numbered job 0) e

-- there is such an element
abbrev pub HasFreeCounter : Job → Type 0
HasFreeCounter job = (e : ℕ) × (e < length job.relation.shape.widths) × (is_free_counter job e ≡ true)

-- the memory has 4,096 words of 12 bits, and the described machine a register PC of 12 bits that is free at the first
-- boundary
pub record FitsPal (job : Job) : Type 0 where
  pub address : job.machine.shape.address ≡ 12
  pub word : job.machine.shape.word ≡ 12
  pub counter : HasFreeCounter job

-- whether there is such an element
abbrev pub has_free_counter : Job → Bool
has_free_counter job = list_any (is_free_counter job) (range_with_len 0 (length job.relation.shape.widths))

-- whether PDP-8 programs fit a job, as a test
abbrev pub fits_pal : Job → Bool
fits_pal job =
    job.machine.shape.address == 12 && (job.machine.shape.word == 12 && has_free_counter job)
