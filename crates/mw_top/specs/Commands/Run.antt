-- run: a board file, a microprogram for its board, and an environment in which the board runs.
use Rattle.std.specs.Prelude.{◌≡◌, ℕ, List}
use Rattle.mw_plan.specs.Plan.{Plan, done}
use Rattle.mw_top.specs.declared.commands.Work.{Work}
use Rattle.mw_top.specs.declared.commands.Work.TheVariants as works
use Rattle.mw_top.specs.declared.fault.Fault.{Fault}
use Rattle.mw_top.specs.declared.status.Status.{Status}
use Rattle.mw_top.specs.declared.status.Status.TheVariants.{Done}
use Rattle.mw_top.specs.Commands.Prepared.{prepared_plan}
use Rattle.mw_top.specs.RunText.{run_from}
use Rattle.mw_top.specs.Work.{Prepared}

-- the run of what the three files prepare
unfoldable pub run_plan : Plan Fault Work
run_plan = prepared_plan (λ prepared. done (works.Run prepared))

-- the report is the text of the run of so many cycles
pub record IsRun (cycles : ℕ) (prepared : Prepared) (status : Status) (report : List ℕ) : Type 0 where
  pub status_is : status ≡ Done
  pub report_is : report ≡ run_from prepared cycles
