use Rattle.mw_rel.specs.Free.{numbered}
use Rattle.mw_rel.specs.Views.{job_of}
use Rattle.mw_course.proofs.OwnTerms.{own_more, with_own_step}
use Rattle.mw_course.proofs.elements.push_own.Goals as goal

pub returns-clause-own : goal.returns-clause-own
returns-clause-own c =
    rw c.in_ok-push.ensures.items
    (own_more (numbered (job_of c.args.job.now) c.args.boundary) c.args.number c.free.result _ _ _ _ c.free.ensures
    c.requires.count c.requires.own c.in_ok-term.ensures.own)

pub returns-clause-listed : goal.returns-clause-listed
returns-clause-listed c =
    let job = job_of c.args.job.now in
    rw c.in_ok-push.ensures.items
    (with_own_step (numbered job c.args.boundary) job.relation.shape.widths c.args.number c.free.result
    c.width_of-width.result
    c.in_ok-term.term c.args.own.now.items _ _ c.requires.there c.free.ensures c.width_of-width.ensures.exact
    c.in_ok-term.ensures.listed)
