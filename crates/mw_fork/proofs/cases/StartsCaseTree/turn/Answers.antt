use Rattle.mw_decide.proofs.Remaining.{paths_later}
use Rattle.mw_path.specs.Paths.{path_in}
use Rattle.mw_rel.specs.Views.{job_of}
use Rattle.mw_course.proofs.Followed.{asked_on, gone}
use Rattle.mw_fork.proofs.StartLaws.{gone_is_case}
use Rattle.mw_fork.proofs.cases.StartsCaseTree.turn.Goals as goal

pub returns-clause-asks : goal.returns-clause-asks
returns-clause-asks c = λ kind term is bits has.
    let s = c.args.self.now in
    let old = c.args.course.now in
    let new = c.turn.new.self in
    let t = c.in_ok-turn.ensures in
    let asked = asked_on (job_of s.job.now) s.boundary bits (path_in old.paths) old.course new c.in_ok-turn.turn kind
    term is
    has.going.course t.turned t.goes in
    record {
      elements = has.going.course.elements;
      cycles = t.cycles;
      paths = paths_later old.course.run.space new.run.space old.paths t.later has.going.paths;
      waits = asked.0;
      on = asked.1;
      within = has.within;
    }

pub returns-clause-gone : goal.returns-clause-gone
returns-clause-gone c = λ is bits has.
    let s = c.args.self.now in
    let old = c.args.course.now in
    let new = c.turn.new.self in
    let t = c.in_ok-turn.ensures in
    record {
      gone = record {
        course = gone (job_of s.job.now) s.boundary bits (path_in old.paths) old.course new c.in_ok-turn.turn is
            has.going.course t.cycles t.turned t.goes;
        paths = paths_later old.course.run.space new.run.space old.paths t.later has.going.paths;
      };
      within = has.within;
    }

pub returns-clause-case : goal.returns-clause-case
returns-clause-case c = λ is bits has.
    gone_is_case c.args.self.now (record { course = c.turn.new.self; paths = c.args.course.now.paths }) bits
    (returns-clause-gone c is bits has)

pub returns-clause-waiting : goal.returns-clause-waiting
returns-clause-waiting c = λ w bits waiting. record { waits = waiting.waits; within = waiting.within }
