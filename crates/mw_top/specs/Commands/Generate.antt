-- generate: a number.
use Rattle.std.specs.Prelude.{◌≡◌, ℕ, List, [], ◌++◌, codes}
use Rattle.mw_base.specs.Numbers.{decimal}
use Rattle.mw_cases.specs.Generated.{IsGenerated}
use Rattle.mw_cases.specs.Operations.{all_operations}
use Rattle.mw_fork.specs.declared.budget.Budget.{Budget}
use Rattle.mw_plan.specs.Plan.{Plan, done}
use Rattle.mw_rel.specs.Job.{Job}
use Rattle.mw_sim.specs.Texts.{line}
use Rattle.mw_top.specs.declared.commands.Work.{Work}
use Rattle.mw_top.specs.declared.commands.Work.TheVariants as works
use Rattle.mw_top.specs.declared.fault.Fault.{Fault}
use Rattle.mw_top.specs.declared.status.Status.{Status}
use Rattle.mw_top.specs.declared.status.Status.TheVariants.{Done}
use Rattle.mw_top.specs.Commands.Certify.{IsCertification}

-- no file
unfoldable pub generate_plan : Plan Fault Work
generate_plan = done works.Generation

-- Behind a yes stands `operations N`, how many operations the instructions have together; behind another answer
-- nothing.
abbrev pub operations_text : Status → ℕ → List ℕ
operations_text Done operations = line (codes "operations " ++ decimal operations)
operations_text other operations = []

-- A job that is generated of the number is certified within a budget, as one of files is, and behind a yes stands how
-- many operations it has.
pub record IsGeneration (budget : Budget) (number : ℕ) (status : Status) (report : List ℕ) : Type 0 where
  pub job : Job
  pub generated : IsGenerated number job
  pub certification : List ℕ
  pub certified : IsCertification budget job status certification
  pub report_is : report ≡ certification ++ operations_text status all_operations
