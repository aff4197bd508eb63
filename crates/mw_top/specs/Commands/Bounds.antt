-- bounds: a board file, a microprogram for its board, a described machine, and a relation between both.
use Rattle.std.specs.Prelude.{◌≡◌, ℕ, [], ◌++◌, List, codes, length, slice_index_or}
use Rattle.std.specs.List.{flat_map, range_with_len}
use Rattle.mw_base.specs.Numbers.{decimal}
use Rattle.mw_bounds.specs.declared.range.Bounds.{Bounds}
use Rattle.mw_bounds.specs.declared.range.Bounds.TheVariants.{Found, Unknown}
use Rattle.mw_bounds.specs.declared.length.Length.{Length}
use Rattle.mw_bounds.specs.declared.length.Length.TheVariants.{Cycles, Late}
use Rattle.mw_bounds.specs.declared.range.Range.{Range}
use Rattle.mw_bounds.specs.Answers.{IsAnswer}
use Rattle.mw_cycle.specs.Environment.{no_values}
use Rattle.mw_fork.specs.declared.budget.Budget.{Budget}
use Rattle.mw_plan.specs.Plan.{Plan, done}
use Rattle.mw_rel.specs.Begin.{Begin}
use Rattle.mw_rel.specs.Job.{Job, IsJob}
use Rattle.mw_replay.specs.Counter.{counter_at}
use Rattle.mw_replay.specs.CounterPrinted.{counter_text}
use Rattle.mw_sim.specs.Texts.{line}
use Rattle.mw_top.specs.declared.commands.Work.{Work}
use Rattle.mw_top.specs.declared.commands.Work.TheVariants as works
use Rattle.mw_top.specs.declared.fault.Fault.{Fault}
use Rattle.mw_top.specs.declared.status.Status.{Status}
use Rattle.mw_top.specs.declared.status.Status.TheVariants as statuses
use Rattle.mw_top.specs.Commands.Certify.{boundary_text, unknown_report}
use Rattle.mw_top.specs.Commands.Job.{job_plan}

-- the job of the four files
unfoldable pub bounds_plan : Plan Fault Work
bounds_plan = job_plan (λ job labels. done (works.Bounds job))

-- ---- its texts

-- a length: how many cycles, or that it is late
abbrev pub length_text : Length → List ℕ
length_text (Cycles cycles) = decimal cycles
length_text Late = codes "late"

-- boundary A least L greatest G
unfoldable pub range_line : Job → (number : ℕ) → Range → List ℕ
range_line job number range =
    boundary_text job number ++ codes " least " ++ length_text range.least ++ codes " greatest "
    ++ line (length_text range.greatest)

-- a start of a boundary, behind what it shows
unfoldable pub shown_text : Job → (number : ℕ) → (front : List ℕ) → Begin → List ℕ
shown_text job number front begin = line front ++ counter_text job (counter_at number begin)

-- the line of a boundary, and the starts that show the least and the greatest length
unfoldable pub range_text : Job → (number : ℕ) → Range → List ℕ
range_text job number range =
    range_line job number range ++ shown_text job number (codes "least") range.least_begin
    ++ shown_text job number (codes "greatest") range.greatest_begin

-- no start; it is only asked for those that there are
abbrev pub no_begin : Begin
no_begin = record { values = []; memory = []; env = no_values }

-- no range
abbrev pub no_range : Range
no_range = record { least = Late; least_begin = no_begin; greatest = Late; greatest_begin = no_begin }

-- the texts of the boundaries, in their order
abbrev pub range_texts : Job → List Range → List ℕ
range_texts job ranges =
    flat_map (λ number. range_text job number (slice_index_or ranges number no_range))
    (range_with_len 0 (length ranges))

-- ---- its answer

-- the status of an answer
abbrev pub bounds_status : Bounds → Status
bounds_status (Found ranges) = statuses.Done
bounds_status (Unknown over) = statuses.Unknown

-- its report
abbrev pub bounds_report : Job → Bounds → List ℕ
bounds_report job (Found ranges) = range_texts job ranges
bounds_report job (Unknown over) = unknown_report job over

-- how long the segments of a job last, within a budget, and that is what status and report say
pub record IsBounding (budget : Budget) (job : Job) (status : Status) (report : List ℕ) : Type 0 where
  pub job_is : IsJob job
  pub bounds : Bounds
  pub answers : IsAnswer job budget bounds
  pub status_is : status ≡ bounds_status bounds
  pub report_is : report ≡ bounds_report job bounds
