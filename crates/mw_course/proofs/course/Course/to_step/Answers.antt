use Rattle.std.proofs.Common.{sym}
use Rattle.mw_rel.specs.Views.{job_of}
use Rattle.mw_course.proofs.Courses.{asks_on, comes_few, late_on, reached_on}
use Rattle.mw_course.proofs.course.Course.to_step.Goals as goal

pub begin-requires-clause-few : goal.begin-requires-clause-few
begin-requires-clause-few c =
    comes_few (job_of c.args.job.now) c.args.boundary c.segment.new.run c.in_ok-kind.field-0 c.args.job.now.is_job
    c.requires.boundary c.in-Reached.is c.in_ok-kind.ensures.comes

pub returns-in-Asks-clause-come : goal.returns-in-Asks-clause-come
returns-in-Asks-clause-come c =
    let e = c.in_ok-kind.ensures in
    asks_on (job_of c.args.job.now) c.args.boundary c.args.self.now.run c.segment.new.run c.args.self.now.step
    c.in_ok-kind.field-0 c.in-Asks.kind c.in-Asks.term c.in-Asks.is (sym c.if-is_some.ensures) e.comes e.goes

pub returns-in-Late-clause-come : goal.returns-in-Late-clause-come
returns-in-Late-clause-come c =
    let e = c.in_ok-kind.ensures in
    late_on (job_of c.args.job.now) c.args.boundary c.args.self.now.run c.segment.new.run c.args.self.now.step
    c.in_ok-kind.field-0 c.args.job.now.is_job c.requires.boundary c.in-Late.is
    (sym c.if-is_some.ensures) e.comes e.goes

pub returns-in_ok-begin-in-Reached-clause-come : goal.returns-in_ok-begin-in-Reached-clause-come
returns-in_ok-begin-in-Reached-clause-come c =
    let e = c.in_ok-kind.ensures in
    let b = c.in_ok-begin-in-Reached.ensures in
    reached_on (job_of c.args.job.now) c.args.boundary c.args.self.now.run c.segment.new.run c.args.self.now.step
    c.in_ok-kind.field-0 c.in_ok-begin-in-Reached.field-0 c.in-Reached.is
    (sym c.if-is_some.ensures) e.goes b.under b.idle
    b.goes
