-- pal: a board file, a microprogram for its board, a described machine, a relation between both, the source of a PDP-8
-- program, and the keys at its console.
use Rattle.std.specs.Prelude.{◌≡◌, ℕ, List, [], ◌++◌, codes, length, ◌==◌, if◌then◌else◌, Result, Ok, Err}
use Rattle.mw_base.specs.declared.cause.Cause.TheVariants.{NotPdp8}
use Rattle.mw_base.specs.declared.refusal.TextFault.{TextFault}
use Rattle.mw_check.specs.declared.comparison.Compared.{Compared}
use Rattle.mw_check.specs.declared.comparison.Compared.TheVariants as compared
use Rattle.mw_check.specs.Comparison.{Shows}
use Rattle.mw_pal.specs.Fits.{FitsPal, fits_pal}
use Rattle.mw_pal.specs.Source.{IsMemory, memory_of}
use Rattle.mw_pal.specs.Talk.{IsTalk, Talk}
use Rattle.mw_plan.specs.Plan.{Plan, done, ◌>>=◌, next_by}
use Rattle.mw_rel.specs.Job.{Job, IsJob}
use Rattle.mw_rel.specs.Start.{Start}
use Rattle.mw_replay.specs.Counter.{IsCounter, IsStartOf}
use Rattle.mw_replay.specs.CounterPrinted.{environment_lines, series_line, values_lines}
use Rattle.mw_top.specs.declared.commands.Work.{Work}
use Rattle.mw_top.specs.declared.commands.Work.TheVariants as works
use Rattle.mw_top.specs.declared.fault.Fault.{Fault}
use Rattle.mw_top.specs.declared.fault.Fault.TheVariants.{Text}
use Rattle.mw_top.specs.declared.status.Status.{Status}
use Rattle.mw_top.specs.Commands.Compare.{compare_report, compare_status}
use Rattle.mw_top.specs.Commands.Job.{job_plan}
use Rattle.mw_sim.specs.StateText.{state_text}
use Rattle.mw_top.specs.Work.{Console}

-- ---- its files

-- the fault of a source whose job PDP-8 programs don't fit, whatever the text
abbrev pub not_pdp8 : TextFault
not_pdp8 = record { line = 1; column = 1; cause = NotPdp8 }

-- the memory of a source for a job, or its first fault
unfoldable pub source_of : Job → List ℕ → Result (List ℕ) TextFault
source_of job text = if fits_pal job then memory_of text else Err not_pdp8

-- the keys are the bytes of their file, whatever these are
abbrev pub keys_of : List ℕ → Result (List ℕ) TextFault
keys_of bytes = Ok bytes

-- the job of the first four files, the memory of the source in the fifth, and the keys in the sixth
unfoldable pub pal_plan : Plan Fault Work
pal_plan = job_plan (λ job labels.
    next_by Text (source_of job) >>= λ memory.
    next_by Text keys_of >>= λ keys.
    done (works.Console (record { job = job; memory = memory; keys = keys })))

-- ---- its texts

-- what the console printed: `; text` and its bytes, sixteen to a line, and one such line where there are none
unfoldable pub printed_lines : List ℕ → List ℕ
printed_lines text =
    if length text == 0 then series_line (codes "; text") [] else values_lines (codes "; text") text

-- a start as an environment in which the board runs from it: its state, and the lists
unfoldable pub start_text : Job → Start → List ℕ
start_text job start = state_text job.board start.pair.board ++ environment_lines start.env

-- The report of so many steps from a start: where none differs, `; same K`, what the console printed, and the start;
-- else the step that differs.
unfoldable pub pal_report : Job → (steps : ℕ) (text : List ℕ) → Start → Compared → List ℕ
pal_report job steps text start compared.Same =
    codes "; " ++ compare_report job steps compared.Same ++ printed_lines text ++ start_text job start
pal_report job steps text start (compared.Differs step difference) =
    compare_report job steps (compared.Differs step difference)

-- ---- its answer

-- so many steps from a start show this, and that is what status and report say, behind what the console printed
pub record IsTold (job : Job) (steps : ℕ) (text : List ℕ) (start : Start) (status : Status) (report : List ℕ)
    : Type 0 where
  pub compared : Compared
  pub shows : Shows job start steps compared
  pub status_is : status ≡ compare_status compared
  pub report_is : report ≡ pal_report job steps text start compared

-- The console run of so many steps with the program's memory and its keys tells this, and as many steps from its start,
-- over the inputs that it took, are told so.
pub record IsPal (steps : ℕ) (console : Console) (status : Status) (report : List ℕ) : Type 0 where
  pub job_is : IsJob console.job
  pub fits : FitsPal console.job
  pub memory_is : IsMemory console.memory
  pub talk : Talk
  pub talks : IsTalk console.job console.memory console.keys steps talk
  pub counter_is : IsCounter console.job talk.counter
  pub told : IsTold console.job steps talk.text talks.start status report
