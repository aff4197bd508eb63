use Rattle.std.proofs.Common.{ℕ, ap, subst, ◌∙◌}
use Rattle.mw_rel.specs.Views.{job_of}
use Rattle.mw_fork.specs.declared.starts.Starts.{Starts}
use Rattle.mw_fork.specs.Begins.{IsFirstOfCase, IsOfCase}
use Rattle.mw_fork.specs.Forks.{Fork}
use Rattle.mw_fork.proofs.Seen.{gone_at}
use Rattle.mw_fork.proofs.fork.Fork.begin.Goals as goal

pub first_start-requires : goal.first_start-requires
first_start-requires g c =
    let given = c.requires.given in
    record {
      gone = (
        given.0,
        gone_at (job_of c.args.job.now) c.args.self.now c.self.inside.cases c.course.result.now c.tree.result.now.boundary
            given.0 c.self.view_is c.requires.of given.1 (ap (λ (s : Starts). s.boundary) c.tree.ensures) c.course.ensures,
      );
    }

pub returns-clause-of_case : goal.returns-clause-of_case
returns-clause-of_case g c = λ last here.
    let job = job_of c.args.job.now in
    let same = ap (λ (s : Starts). s.boundary) c.tree.ensures in
    subst (λ (n : ℕ). IsOfCase job n last c.in_ok-first_start.field-0)
    (same ∙ ap (λ (f : Fork). f.boundary) c.self.view_is)
    (c.in_ok-first_start.ensures.of_case last
    (gone_at job c.args.self.now c.self.inside.cases c.course.result.now c.tree.result.now.boundary last c.self.view_is
    c.requires.of here same c.course.ensures))

pub returns-clause-first : goal.returns-clause-first
returns-clause-first g c = λ last here.
    let job = job_of c.args.job.now in
    let same = ap (λ (s : Starts). s.boundary) c.tree.ensures in
    subst (λ (n : ℕ). IsFirstOfCase job n last c.in_ok-first_start.field-0)
    (same ∙ ap (λ (f : Fork). f.boundary) c.self.view_is)
    (c.in_ok-first_start.ensures.first last
    (gone_at job c.args.self.now c.self.inside.cases c.course.result.now c.tree.result.now.boundary last c.self.view_is
    c.requires.of here same c.course.ensures))
