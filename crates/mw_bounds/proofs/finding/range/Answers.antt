use Rattle.mw_rel.specs.Views.{job_of}
use Rattle.mw_bounds.specs.declared.extreme.Side.TheVariants.{Greatest, Least}
use Rattle.mw_bounds.proofs.Found.{found, not_none}
use Rattle.mw_bounds.proofs.finding.range.Goals as goal

pub unreachable-requires-in_default-least : goal.unreachable-requires-in_default-least
unreachable-requires-in_default-least g c =
    let walked = c.in_ok-walk.ensures.all c.in-Continue.is in
    not_none (job_of c.args.job.now) c.args.boundary Least c.walk.new.visitor.least walked.cases c.args.job.now.is_job
    c.requires.there walked.all walked.says.least c.in_default-least.is

pub unreachable-requires-in_default-greatest : goal.unreachable-requires-in_default-greatest
unreachable-requires-in_default-greatest g c =
    let walked = c.in_ok-walk.ensures.all c.in-Continue.is in
    not_none (job_of c.args.job.now) c.args.boundary Greatest c.walk.new.visitor.greatest walked.cases
    c.args.job.now.is_job c.requires.there walked.all walked.says.greatest c.in_default-greatest.is

pub returns-clause-found : goal.returns-clause-found
returns-clause-found g c =
    found (job_of c.args.job.now) c.args.boundary c.args.budget c.walk.new.visitor c.in-Some.least
    c.in-Some-greatest.greatest (c.in_ok-walk.ensures.all c.in-Continue.is) c.in-Some.is c.in-Some-greatest.is
