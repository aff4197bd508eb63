use Rattle.std.proofs.Common.{subst}
use Rattle.mw_decide.proofs.Remaining.{paths_later}
use Rattle.mw_path.specs.Paths.{path_in}
use Rattle.mw_twin.specs.Courses.{IsTurned, IsTurnedOnCourse}
use Rattle.mw_twinfork.proofs.EndsMet.{case_met}
use Rattle.mw_twinfork.proofs.OthersWait.{terms_kept}
use Rattle.mw_twinfork.proofs.cases.TwinsCaseTree.turn.Goals as goal

pub returns-clause-asks : goal.returns-clause-asks
returns-clause-asks c = λ kind term is bits has.
    let s = c.args.self.now.revised in
    let old = c.args.course.now in
    let new = c.turn.new.self in
    let t = c.in_ok-turn.ensures in
    record {
      asking = record {
        waits = subst (IsTurned s new) is t.turned;
        terms = terms_kept s old.course new t.elements has.going.terms;
        on = subst (IsTurnedOnCourse s bits (path_in old.paths) new) is
            (t.goes bits (path_in old.paths) has.going.on);
        paths = paths_later old.course.space new.space old.paths t.later has.going.paths;
      };
      within = has.within;
    }

pub returns-clause-gone : goal.returns-clause-gone
returns-clause-gone c = λ is bits has.
    let s = c.args.self.now.revised in
    let old = c.args.course.now in
    let new = c.turn.new.self in
    let t = c.in_ok-turn.ensures in
    record {
      gone = record {
        run = subst (IsTurned s new) is t.turned;
        terms = terms_kept s old.course new t.elements has.going.terms;
        met = subst (IsTurnedOnCourse s bits (path_in old.paths) new) is
            (t.goes bits (path_in old.paths) has.going.on);
        paths = paths_later old.course.space new.space old.paths t.later has.going.paths;
      };
      within = has.within;
    }

pub returns-clause-case : goal.returns-clause-case
returns-clause-case c = λ is bits has.
    let gone = (returns-clause-gone c is bits has).gone in
    case_met c.args.self.now.revised bits (path_in c.args.course.now.paths) c.turn.new.self gone.run.stands gone.met

pub returns-clause-waiting : goal.returns-clause-waiting
returns-clause-waiting c = λ w bits waiting. record { waits = waiting.waits; within = waiting.within }
