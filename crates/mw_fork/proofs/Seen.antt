-- What is so of the cases that a fork explores is so of the fork.
use Rattle.std.proofs.Common.{◌≡◌, ℕ, List, ap, subst, sym, ◌∙◌}
use Rattle.mw_term.specs.declared.decided.Decided.{Decided}
use Rattle.mw_explore.specs.Cases.{At}
use Rattle.mw_explore.specs.Explorers.{Explorer}
use Rattle.mw_rel.specs.Job.{Job}
use Rattle.mw_rel.specs.Views.{job_of}
use Rattle.mw_fork.specs.Traces.{Traced}
use Rattle.mw_fork.specs.declared.starts.Starts.{Starts}
use Rattle.mw_fork.specs.Traces.{HasGone}
use Rattle.mw_fork.specs.Forks.{Fork, IsForkOf, fork_of}
use Rattle.mw_fork.specs.StartCases.{HasGoneThrough}

pub seen : (P : Job → Fork → Type 0) (job : Job) (f : Fork) (e : Explorer Starts) → fork_of e ≡ f → IsForkOf job f
    → P (job_of e.tree.job.now) (fork_of e) → P job f
seen P job f e view of is =
    subst (P job) view (subst (λ (j : Job). P j (fork_of e)) (ap (λ (g : Fork). g.job) view ∙ of.of) is)

-- the course of the case given last has gone through it
pub gone_at : (job : Job) (f : Fork) (e : Explorer Starts) (traced : Traced) (boundary : ℕ) (last : List Decided)
    → fork_of e ≡ f → IsForkOf job f → f.at ≡ At last → boundary ≡ e.tree.boundary
    → ((bits : List Decided) → e.at ≡ At bits → HasGoneThrough e.tree traced bits) → HasGone job boundary last traced
gone_at job f e traced boundary last view of here same gone =
    seen (λ (j : Job) (g : Fork). g.at ≡ At last → HasGone j boundary last traced) job f e view of
    (λ at. subst (λ (n : ℕ). HasGone (job_of e.tree.job.now) n last traced) (sym same) (gone last at).gone) here
