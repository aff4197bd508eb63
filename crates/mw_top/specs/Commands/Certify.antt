-- certify: a board file, a microprogram for its board, a described machine, and a relation between both.
use Rattle.std.specs.Prelude.{◌≡◌, ℕ, ◌++◌, List, codes, if◌then◌else◌, length, nat_le, slice_index_or, Ok}
use Rattle.std.specs.List.{flat_map, list_any, range_with_len}
use Rattle.mw_asm.specs.declared.assembled.Label.{Label}
use Rattle.mw_base.specs.Numbers.{decimal, hex}
use Rattle.mw_board.specs.Elements.{element_count}
use Rattle.mw_check.specs.declared.verdict.Summary.{Summary}
use Rattle.mw_check.specs.declared.verdict.Verdict.{Verdict}
use Rattle.mw_check.specs.declared.verdict.Verdict.TheVariants as verdicts
use Rattle.mw_check.specs.Verdict.{IsVerdict}
use Rattle.mw_term.specs.declared.decided.Decided.{Decided}
use Rattle.mw_fork.specs.declared.budget.Budget.{Budget}
use Rattle.mw_fork.specs.declared.fault.Over.{Over}
use Rattle.mw_fork.specs.declared.fault.Over.TheVariants as overs
use Rattle.mw_plan.specs.Plan.{Plan, done}
use Rattle.mw_rel.specs.declared.difference.Difference.{Difference}
use Rattle.mw_rel.specs.Differs.{Differs as StartDiffers}
use Rattle.mw_rel.specs.Free.{numbered}
use Rattle.mw_rel.specs.Job.{Job, IsJob}
use Rattle.mw_rel.specs.Relation.{Boundary}
use Rattle.mw_rel.specs.Start.{Start}
use Rattle.mw_replay.specs.Counter.{Counter, IsStartOf}
use Rattle.mw_replay.specs.CounterPrinted.{counter_text, no_lines}
use Rattle.mw_replay.specs.CounterText.{counter_of}
use Rattle.mw_sim.specs.Texts.{line}
use Rattle.mw_top.specs.declared.commands.Work.{Work}
use Rattle.mw_top.specs.declared.commands.Work.TheVariants as works
use Rattle.mw_top.specs.declared.fault.Fault.{Fault}
use Rattle.mw_top.specs.declared.status.Status.{Status}
use Rattle.mw_top.specs.declared.status.Status.TheVariants.{Done, Differs, Unknown}
use Rattle.mw_top.specs.Commands.Equal.{word_text}
use Rattle.mw_top.specs.Commands.Job.{job_plan}
use Rattle.mw_top.specs.PrefixText.{prefix_text}
use Rattle.mw_top.specs.Report.{difference_text}

-- the job of the four files
unfoldable pub certify_plan : Plan Fault Work
certify_plan = job_plan (λ job labels. done (works.Certification job))

-- ---- its texts

-- a boundary, by its control address
unfoldable pub boundary_text : Job → (number : ℕ) → List ℕ
boundary_text job number = codes "boundary " ++ hex (numbered job number).address

-- a count, behind what is counted
abbrev pub count_text : (front : List ℕ) → ℕ → List ℕ
count_text front count = front ++ decimal count

-- whether the pairs in relation at a boundary have all states of the machine: no `m.` element is on a left side there
unfoldable pub states_text : Job → Boundary → List ℕ
states_text job boundary =
    if list_any (λ line. nat_le (element_count job.board) line.left) boundary.lines
    then codes "restricted" else codes "all"

-- boundary A cases N cycles M machine-states S
unfoldable pub summary_line : Job → (number : ℕ) → Summary → List ℕ
summary_line job number summary =
    boundary_text job number ++ count_text (codes " cases ") summary.cases
    ++ count_text (codes " cycles ") summary.cycles
    ++ line (codes " machine-states " ++ states_text job (numbered job number))

-- no summary; it is only asked for those that there are
abbrev pub no_summary : Summary
no_summary = record { cases = 0; cycles = 0 }

-- the lines of the boundaries, in their order
abbrev pub summary_lines : Job → List Summary → List ℕ
summary_lines job summaries =
    flat_map (λ number. summary_line job number (slice_index_or summaries number no_summary))
    (range_with_len 0 (length summaries))

-- yes, and a line for each boundary
unfoldable pub yes_report : Job → List Summary → List ℕ
yes_report job summaries = line (codes "yes") ++ summary_lines job summaries

-- no, the difference, and the counter
unfoldable pub no_report : Job → Difference → Counter → List ℕ
no_report job difference counter = no_lines (difference_text job difference) ++ counter_text job counter

-- the rest of the line of an operation: its prefix, its word and its bit
unfoldable pub operation_text : List Decided → (word j : ℕ) → List ℕ
operation_text prefix word j = line (codes " prefix " ++ prefix_text prefix ++ word_text word j)

-- unknown nodes boundary A prefix X word W bit J, or unknown paths boundary A limit P
unfoldable pub unknown_report : Job → Over → List ℕ
unknown_report job (overs.Nodes number prefix word j) =
    codes "unknown nodes " ++ boundary_text job number ++ operation_text prefix word j
unknown_report job (overs.Paths number limit) =
    codes "unknown paths " ++ boundary_text job number ++ line (codes " limit " ++ decimal limit)

-- the number of the boundary at which something is over its budget
abbrev pub boundary_over_budget : Over → ℕ
boundary_over_budget (overs.Nodes number prefix word j) = number
boundary_over_budget (overs.Paths number limit) = number

-- ---- its answer

-- the status of a verdict
abbrev pub verdict_status : Verdict → Status
verdict_status (verdicts.Yes summaries) = Done
verdict_status (verdicts.No counter) = Differs
verdict_status (verdicts.Unknown over) = Unknown

-- the start of a counter differs by a difference
pub record Shows (job : Job) (counter : Counter) (difference : Difference) : Type 0 where
  pub start : Start
  pub its : IsStartOf job counter start
  pub differs : StartDiffers job start difference

-- The report of a no: its start differs by the difference that is named, and the report is read back as the counter,
-- whatever the labels.
pub record IsNoReport (job : Job) (counter : Counter) (report : List ℕ) : Type 0 where
  pub difference : Difference
  pub shows : Shows job counter difference
  pub report_is : report ≡ no_report job difference counter
  pub reads_back : (labels : List Label) → counter_of job labels report ≡ Ok counter

-- the report of a verdict
abbrev pub IsVerdictReport : Job → Verdict → List ℕ → Type 0
IsVerdictReport job (verdicts.Yes summaries) report = report ≡ yes_report job summaries
IsVerdictReport job (verdicts.No counter) report = IsNoReport job counter report
IsVerdictReport job (verdicts.Unknown over) report = report ≡ unknown_report job over

-- a job has this verdict within a budget, and that is what status and report say
pub record IsCertification (budget : Budget) (job : Job) (status : Status) (report : List ℕ) : Type 0 where
  pub job_is : IsJob job
  pub verdict : Verdict
  pub answers : IsVerdict job budget verdict
  pub status_is : status ≡ verdict_status verdict
  pub report_is : IsVerdictReport job verdict report
