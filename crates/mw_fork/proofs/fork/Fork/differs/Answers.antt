use Rattle.std.proofs.Common.{◌≡◌, ℕ, List, ap, subst, sym, ◌∙◌}
use Rattle.mw_term.specs.declared.decided.Decided.{Decided}
use Rattle.mw_explore.specs.Cases.{At}
use Rattle.mw_rel.specs.Job.{Job}
use Rattle.mw_rel.specs.OverBudget.{AreNodesOver}
use Rattle.mw_rel.specs.Views.{job_of}
use Rattle.mw_fork.specs.declared.starts.Starts.{Starts}
use Rattle.mw_fork.specs.Failing.{ComparisonsAreWithin, IsFoundOf}
use Rattle.mw_fork.specs.Forks.{Fork}
use Rattle.mw_fork.proofs.Seen.{seen}
use Rattle.mw_fork.proofs.fork.Fork.differs.Goals as goal

pub returns-clause-within : goal.returns-clause-within
returns-clause-within g c = λ none.
    let e = c.self.inside.cases in
    seen (λ (job : Job) (f : Fork). (last : List Decided) → f.at ≡ At last
    → ComparisonsAreWithin job f.boundary f.budget.nodes last) (job_of c.args.job.now) c.args.self.now e c.self.view_is
    c.requires.of (λ last here.
    (subst (IsFoundOf (job_of e.tree.job.now) e.tree.boundary e.tree.nodes last) none
    (c.in-Ok.ensures.found last here)).1)

pub returns-in-Err-clause-cause : goal.returns-in-Err-clause-cause
returns-in-Err-clause-cause g c = λ number prefix word j same.
    let e = c.self.inside.cases in
    let told = c.fault_of.ensures.nodes number prefix word j same in
    let here = told.0 ∙ ap (λ (s : Starts). s.boundary) c.tree.ensures in
    let cause = c.in-Err.ensures.cause prefix _ told.1 in
    seen (λ (job : Job) (f : Fork). (number ≡ f.boundary) × (f.at ≡ At prefix)
    × AreNodesOver job number f.budget.nodes prefix word j) (job_of c.args.job.now) c.args.self.now e c.self.view_is
    c.requires.of (
      here,
      cause.0,
      subst (λ (n : ℕ). AreNodesOver (job_of e.tree.job.now) n e.tree.nodes prefix word j) (sym here) cause.1,
    )
