use Rattle.std.proofs.Common.{◌≡◌, ℕ, List, subst}
use Rattle.std.specs.Prelude.{IfSome}
use Rattle.mw_term.specs.declared.decided.Decided.{Decided}
use Rattle.mw_rel.specs.Views.{job_of}
use Rattle.mw_fork.specs.Begins.{IsDiffering}
use Rattle.mw_explore.specs.Cases.{At}
use Rattle.mw_callrows.proofs.calls.differs.push_differing.Goals as goal

pub counter_of-requires-clause-differs : goal.counter_of-requires-clause-differs
counter_of-requires-clause-differs g c =
    let job = job_of c.args.job.now in
    let fork = c.args.fork.now in
    let given = c.requires.given in
    let told = subst (λ found. IfSome found (λ begin. (last : List Decided) → fork.at ≡ At last
    → IsDiffering job fork.boundary last begin)) c.in-Ok-Some.field-0-is c.in-Ok-Some.ensures.differs in (
      given.0,
      subst (λ (number : ℕ). IsDiffering job number given.0 c.in-Ok-Some.begin) c.requires.boundary
          (told given.0 given.1),
    )
