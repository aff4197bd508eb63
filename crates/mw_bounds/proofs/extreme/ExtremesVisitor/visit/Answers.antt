use Rattle.std.proofs.lemmas.List.Elements.{All-push}
use Rattle.mw_rel.specs.OverBudget.{AreWithin}
use Rattle.mw_rel.specs.Views.{job_of}
use Rattle.mw_bounds.proofs.extreme.ExtremesVisitor.visit.Goals as goal

pub returns-clause-seen : goal.returns-clause-seen
returns-clause-seen g c = λ same before cases next seen.
    (let fork = c.args.fork.now in
    record {
      decided = All-push (AreWithin (job_of c.args.job.now) fork.boundary fork.budget.nodes) cases
          c.args.case.now.prefix seen.decided (λ front rest d is. (c.requires.at.within front d rest is).within);
      least = c.in_ok-take.ensures.taken cases next seen.least;
      greatest = (rw c.in_ok-take.ensures.same at (c.in_ok-take-2.ensures.taken cases)) next seen.greatest;
    })
