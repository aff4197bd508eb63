use Rattle.std.proofs.Common.{true, false}
use Rattle.mw_twin.proofs.Courses.{new_asks_on, new_ended, new_gone_on}
use Rattle.mw_twin.proofs.course.Course.turn_new.Goals as goal

pub returns-in-Asks-clause-goes : goal.returns-in-Asks-clause-goes
returns-in-Asks-clause-goes c =
    new_asks_on c.args.revised.now c.args.self.now c.in-Some.after c.go_new.new.space c.go_new.new.after
    c.in_ok-kind.field-0 c.in-Asks.kind c.in-Asks.term c.in-Asks.is c.in-Some.is c.in_ok-kind.ensures.goes

pub returns-in-Reached-clause-turned : goal.returns-in-Reached-clause-turned
returns-in-Reached-clause-turned c =
    new_ended c.args.revised.now c.args.self.now c.go_new.new.space c.go_new.new.after c.in_ok-kind.field-0 false
    c.in-Reached.is c.in_ok-kind.ensures.in_new c.in_ok-kind.ensures.comes

pub returns-in-Late-clause-turned : goal.returns-in-Late-clause-turned
returns-in-Late-clause-turned c =
    new_ended c.args.revised.now c.args.self.now c.go_new.new.space c.go_new.new.after c.in_ok-kind.field-0 true
    c.in-Late.is c.in_ok-kind.ensures.in_new c.in_ok-kind.ensures.comes

pub returns-in-Reached-clause-goes : goal.returns-in-Reached-clause-goes
returns-in-Reached-clause-goes c =
    new_gone_on c.args.revised.now c.args.self.now c.in-Some.after c.go_new.new.space c.go_new.new.after
    c.in_ok-kind.field-0 false c.in-Reached.is c.in-Some.is c.in_ok-kind.ensures.goes

pub returns-in-Late-clause-goes : goal.returns-in-Late-clause-goes
returns-in-Late-clause-goes c =
    new_gone_on c.args.revised.now c.args.self.now c.in-Some.after c.go_new.new.space c.go_new.new.after
    c.in_ok-kind.field-0 true c.in-Late.is c.in-Some.is c.in_ok-kind.ensures.goes
