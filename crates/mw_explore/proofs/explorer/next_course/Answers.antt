use Rattle.std.proofs.Common.{◌∙◌, arith, sym}
use Rattle.mw_explore.proofs.Advancing.{begins_first, last_waits, one_waits}
use Rattle.mw_explore.proofs.Taking.{all_wait_on}
use Rattle.mw_explore.proofs.explorer.next_course.Goals as goal

pub unreachable-requires : goal.unreachable-requires
unreachable-requires g c =
    one_waits (g.T.CaseTree.is_waiting c.args.tree.now) c.args.stage.now c.in-At.course c.args.trail.now.way
    c.args.trail.now.waiting.items c.pop.result (sym c.replace.ensures.value ∙ c.in-At.is) c.requires.begin c.in_default.is
    (λ some. c.pop.ensures.variant.1 (omega (arith, c.args.trail.now.waiting.ok, some)))

pub returns-in-Some-clause-stands : goal.returns-in-Some-clause-stands
returns-in-Some-clause-stands g c =
    let waits = g.T.CaseTree.is_waiting c.args.tree.now in
    let way = c.args.trail.now.way in
    let both = last_waits waits c.args.stage.now c.in-At.course way c.args.trail.now.waiting.items c.pop.new.self.items
    c.pop.result c.in-Some.next (sym c.replace.ensures.value ∙ c.in-At.is) c.requires.begin c.in-Some.is
    c.pop.ensures.items in
    record {
      course = c.go_on.result;
      at = c.stand_at.ensures;
      stands = record {
        has = c.go_on.ensures.come _ both.1;
        kept = c.requires.kept;
        waits = all_wait_on (waits c.in-At.course) (waits c.go_on.result) way c.pop.new.self.items c.go_on.ensures.waiting
            both.0;
      };
    }

pub returns-in_ok-course-in-Before-clause-stands : goal.returns-in_ok-course-in-Before-clause-stands
returns-in_ok-course-in-Before-clause-stands g c =
    begins_first (g.T.CaseTree.is_waiting c.args.tree.now) (g.T.CaseTree.is_case c.args.tree.now)
    (g.T.CaseTree.has_come c.args.tree.now) c.args.stage.now c.stand_at-in-Before.new.stage c.args.trail.now.way
    c.args.trail.now.waiting.items c.in_ok-course-in-Before.course (sym c.replace.ensures.value ∙ c.in-Before.is)
    c.requires.begin c.stand_at-in-Before.ensures c.in_ok-course-in-Before.ensures
