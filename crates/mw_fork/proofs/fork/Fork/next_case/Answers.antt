use Rattle.std.proofs.Common.{ℕ, List, ap, subst, sym, ◌∙◌}
use Rattle.mw_term.specs.declared.decided.Decided.{Decided}
use Rattle.mw_explore.specs.Cases.{IsToCome}
use Rattle.mw_rel.specs.Case.{IsBefore, IsCase}
use Rattle.mw_rel.specs.Job.{Job}
use Rattle.mw_rel.specs.Views.{job_of}
use Rattle.mw_fork.specs.declared.starts.Starts.{Starts}
use Rattle.mw_fork.specs.Forks.{Fork}
use Rattle.mw_fork.specs.Stops.{IsDecisionOver}
use Rattle.mw_fork.proofs.Seen.{seen}
use Rattle.mw_fork.proofs.fork.Fork.next_case.Goals as goal

pub returns-in-Err-clause-cause : goal.returns-in-Err-clause-cause
returns-in-Err-clause-cause g c = λ number prefix word j same.
    let e = c.self.inside.cases in
    let told = c.fault_of.ensures.nodes number prefix word j same in
    let here = told.0 ∙ ap (λ (s : Starts). s.boundary) c.tree.ensures in
    seen (λ (job : Job) (f : Fork). IsDecisionOver job number f.budget.nodes prefix word j) (job_of c.args.job.now)
    c.args.self.now e c.self.view_is c.requires.of
    (subst (λ (n : ℕ). IsDecisionOver (job_of e.tree.job.now) n e.tree.nodes prefix word j) (sym here)
    (c.in-Err.ensures.cause prefix _ told.1))

pub returns-in-Err-clause-before : goal.returns-in-Err-clause-before
returns-in-Err-clause-before g c = λ number prefix word j same.
    let e = c.self.inside.cases in
    let told = c.fault_of.ensures.nodes number prefix word j same in
    let here = told.0 ∙ ap (λ (s : Starts). s.boundary) c.tree.ensures in
    seen (λ (job : Job) (f : Fork). (other : List Decided) → IsCase job number other → IsBefore other prefix
    → ¬ IsToCome f.at other) (job_of c.args.job.now) c.args.self.now e c.self.view_is c.requires.of
    (subst (λ (n : ℕ). (other : List Decided) → IsCase (job_of e.tree.job.now) n other → IsBefore other prefix
    → ¬ IsToCome e.at other) (sym here) (c.in-Err.ensures.before prefix _ told.1))
