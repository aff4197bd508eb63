-- compare, replay: a board file, a microprogram for its board, a described machine, a relation between both, and a
-- start of it.
use Rattle.std.specs.Prelude.{◌≡◌, ℕ, List, ◌++◌, codes}
use Rattle.mw_base.specs.Numbers.{decimal}
use Rattle.mw_check.specs.declared.comparison.Compared.{Compared}
use Rattle.mw_check.specs.declared.comparison.Compared.TheVariants as compared
use Rattle.mw_check.specs.Comparison.{Shows}
use Rattle.mw_plan.specs.Plan.{Plan, done, ◌>>=◌, next_by}
use Rattle.mw_rel.specs.Job.{Job, IsJob}
use Rattle.mw_rel.specs.Start.{Start}
use Rattle.mw_replay.specs.Counter.{IsCounter, IsStartOf}
use Rattle.mw_replay.specs.CounterText.{counter_of}
use Rattle.mw_sim.specs.Texts.{line}
use Rattle.mw_top.specs.declared.commands.Work.{Work}
use Rattle.mw_top.specs.declared.commands.Work.TheVariants as works
use Rattle.mw_top.specs.declared.fault.Fault.{Fault}
use Rattle.mw_top.specs.declared.fault.Fault.TheVariants.{Text}
use Rattle.mw_top.specs.declared.status.Status.{Status}
use Rattle.mw_top.specs.declared.status.Status.TheVariants.{Done, Differs}
use Rattle.mw_top.specs.Commands.Job.{job_plan}
use Rattle.mw_top.specs.Report.{difference_line}
use Rattle.mw_top.specs.Work.{Comparison}

-- the job of the first four files, and the start of the fifth
unfoldable pub compare_plan : Plan Fault Work
compare_plan = job_plan (λ job labels.
    next_by Text (counter_of job labels) >>= λ counter.
    done (works.Comparison (record { job = job; counter = counter })))

-- the status of a comparison
abbrev pub compare_status : Compared → Status
compare_status compared.Same = Done
compare_status (compared.Differs step difference) = Differs

-- what a comparison of so many steps shows
unfoldable pub compare_report : Job → ℕ → Compared → List ℕ
compare_report job steps compared.Same = line (codes "same " ++ decimal steps)
compare_report job steps (compared.Differs step difference) =
    line (codes "differs step " ++ decimal step) ++ difference_line job difference

-- so many steps from the start that the counter gives show this, and that is what status and report say
pub record IsComparison (steps : ℕ) (comparison : Comparison) (status : Status) (report : List ℕ) : Type 0 where
  pub job_is : IsJob comparison.job
  pub counter_is : IsCounter comparison.job comparison.counter
  pub start : Start
  pub begins : IsStartOf comparison.job comparison.counter start
  pub compared : Compared
  pub shows : Shows comparison.job start steps compared
  pub status_is : status ≡ compare_status compared
  pub report_is : report ≡ compare_report comparison.job steps compared
