-- What a call ends with that runs a PDP-8 program at its console beside a board.
use Rattle.std.specs.Prelude.{◌≡◌, ℕ, ◌≤◌, List}
use Rattle.mw_check.specs.declared.comparison.Compared.{Compared}
use Rattle.mw_check.specs.declared.comparison.Compared.TheVariants.{Same, Differs}
use Rattle.mw_pal.specs.Talk.{IsTalk, Talk}
use Rattle.mw_plan.specs.Files.{IsLeft}
use Rattle.mw_plan.specs.Plan.{done}
use Rattle.mw_rel.specs.declared.difference.Difference.{Difference}
use Rattle.mw_rel.specs.Certified.{Certified}
use Rattle.mw_rel.specs.Differs.{DiffersAt}
use Rattle.mw_rel.specs.Job.{Job}
use Rattle.mw_rel.specs.Start.{Start}
use Rattle.mw_top.specs.declared.commands.Task.TheVariants as tasks
use Rattle.mw_top.specs.declared.commands.Work.TheVariants as works
use Rattle.mw_top.specs.declared.status.Status.{Status}
use Rattle.mw_top.specs.Asked.{AsksFor}
use Rattle.mw_top.specs.Call.{Call, Took}
use Rattle.mw_top.specs.Commands.Compare.{compare_status}
use Rattle.mw_top.specs.Commands.Pal.{pal_plan, pal_report}
use Rattle.mw_top.specs.Request.{files_of}
use Rattle.mw_top.specs.Work.{Console}

-- what is so of as many steps from a start as are compared: none of them differs; or the one that is named is among
-- them and differs, which no start of a certified job does
abbrev pub AreJudged : Job → Start → (steps : ℕ) → Compared → Type 0
AreJudged job start steps Same =
    (step : ℕ) (difference : Difference) → step ≤ steps → ¬ DiffersAt job start step difference
AreJudged job start steps (Differs step difference) =
    (step ≤ steps) × DiffersAt job start step difference × (¬ Certified job)

-- The six files were read and accepted. The console run of as many steps as the words say, with the memory of the source
-- and with the keys, tells a text, and a start with the inputs that its steps took. The status says whether one of as
-- many steps from this start differs. Where none does, the report has the text and this start; else it names the step.
pub record IsPalEnd (call : Call) (status : Status) : Type 0 where
  pub asks : AsksFor tasks.Console call
  pub contents : List (List ℕ)
  pub console : Console
  pub made : IsLeft pal_plan call.shelf_before (files_of asks.request contents) (done (works.Console console))
  pub talk : Talk
  pub talks : IsTalk console.job console.memory console.keys asks.request.steps talk
  pub compared : Compared
  pub judged : AreJudged console.job talks.start asks.request.steps compared
  pub status_is : status ≡ compare_status compared
  pub report : Took call (pal_report console.job asks.request.steps talk.text talks.start compared)
