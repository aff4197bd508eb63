-- What a fork gives: the feasible cases of a boundary, one after another.
use Rattle.std.specs.Prelude.{◌≡◌, ℕ, ◌<◌, ◌≤◌, List, length}
use Rattle.mw_term.specs.declared.decided.Decided.{Decided}
use Rattle.mw_explore.specs.Cases as cases
use Rattle.mw_explore.specs.Cases.{Standing}
use Rattle.mw_explore.specs.Explorers.{Explorer}
use Rattle.mw_rel.specs.Case.{IsCase}
use Rattle.mw_rel.specs.Job.{Job}
use Rattle.mw_rel.specs.Views.{job_of}
use Rattle.mw_fork.specs.declared.budget.Budget.{Budget}
use Rattle.mw_fork.specs.declared.starts.Starts.{Starts}

-- a case of the boundary is the next one: it is to come, and comes before each other one that is
abbrev pub IsNextCase : Job → (number : ℕ) → Standing → List Decided → Type 0
IsNextCase job number at bits = cases.IsNext (IsCase job number) at bits

-- no case of the boundary is to come
abbrev pub NoneIsToCome : Job → (number : ℕ) → Standing → Type 0
NoneIsToCome job number at = cases.NoneIsToCome (IsCase job number) at

-- a case of the boundary is to come
abbrev pub OneIsToCome : Job → (number : ℕ) → Standing → Type 0
OneIsToCome job number at = cases.OneIsToCome (IsCase job number) at

-- its job, the number of its boundary, its budget, how many cases were given, and where it stands among them
pub record Fork : Type 0 where
  pub job : Job
  pub boundary : ℕ
  pub budget : Budget
  pub given : ℕ
  pub at : Standing

-- a fork that explores starts
abbrev pub fork_of : Explorer Starts → Fork
fork_of e = record {
  job = job_of e.tree.job.now;
  boundary = e.tree.boundary;
  budget = record { nodes = e.tree.nodes; paths = e.limit };
  given = e.given;
  at = e.at;
}

-- A fork of a job: its boundary is one of the job, and it has given no more cases than its budget has paths.
pub record IsForkOf (job : Job) (f : Fork) : Type 0 where
  pub of : f.job ≡ job
  pub there : f.boundary < length job.relation.boundaries
  pub few : f.given ≤ f.budget.paths
