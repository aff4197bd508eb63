use Rattle.std.proofs.Common.{arith}
use Rattle.mw_rel.specs.Views.{job_of}
use Rattle.mw_check.proofs.Gone.{one_more}
use Rattle.mw_check.proofs.certification.FoundVisitor.visit.Goals as goal

pub overflow_add-self : goal.overflow_add-self
overflow_add-self g c =
    let seen = c.requires.seen in
    let counted = seen.4.counted in
    omega (arith, seen.3, counted)

pub returns-clause-seen : goal.returns-clause-seen
returns-clause-seen g c = λ same before cases next gone.
    let bits = c.args.case.now.prefix in
    let at = c.requires.at in
    rw c.max-self.ensures (one_more (job_of c.args.job.now) c.args.fork.now.boundary c.args.fork.now.budget.nodes
    c.args.self.now.summary cases bits c.args.case.now.cycles gone (record {
      feasible = next.feasible;
      none = c.in_ok-begin.ensures.none c.in_default.is bits at.at;
      decided = λ front rest d is. (at.within front d rest is).within;
      compared = c.in_ok-begin.ensures.within c.in_default.is bits at.at;
    }) (λ start starts of. (at.ends start starts of).0))
