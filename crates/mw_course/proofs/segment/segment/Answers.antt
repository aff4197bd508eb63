use Rattle.std.proofs.Common.{ap, arith, refl, sym, ◌∙◌}
use Rattle.mw_cycle.specs.Boundary.{is_named}
use Rattle.mw_symmem.proofs.Later.{later_then}
use Rattle.mw_rel.specs.Relation.{Boundary}
use Rattle.mw_rel.specs.Start.{addresses_of}
use Rattle.mw_rel.specs.Views.{job_of}
use Rattle.mw_course.proofs.Segments.{asks, at_bound, at_boundary, finished, finishes, stays_next}
use Rattle.mw_course.proofs.Tracing.{bound_within}
use Rattle.mw_course.proofs.segment.segment.Goals as goal

pub turn-requires-clause-few : goal.turn-requires-clause-few
turn-requires-clause-few c =
    let within = bound_within (job_of c.args.job.now) c.args.boundary _ c.args.job.now.is_job c.requires.boundary refl
    in
    let inv = c.loop-kind.invariant in
    omega (arith, within.1, inv.below, inv.cycles)

pub returns-in-Ask-clause-goes : goal.returns-in-Ask-clause-goes
returns-in-Ask-clause-goes c =
    let e = c.in_ok-kind.ensures in
    asks (job_of c.args.job.now) c.args.boundary c.args.run.now c.loop-kind.run c.turn.new.self c.in_ok-kind.field-0
    c.in-Ask.kind c.in-Ask.term c.in-Ask.is e.turned c.loop-kind.invariant.stays e.goes

pub returns-then-is_boundary-clause-goes : goal.returns-then-is_boundary-clause-goes
returns-then-is_boundary-clause-goes c =
    let job = job_of c.args.job.now in
    let inv = c.loop-kind.invariant in
    let after = finished job c.loop-kind.run c.turn.new.self c.in_ok-kind.field-0 c.in_default.is
    c.in_ok-kind.ensures.turned in
    at_boundary job c.args.boundary c.loop-kind.run.board.place.cycle c.args.run.now c.turn.new.self after.0
    after.1.cycles
    (ap (is_named (addresses_of job)) (sym c.at.ensures) ∙ sym c.is_boundary.ensures ∙ c.if-is_boundary.true)
    (omega (arith, inv.below, inv.cycles)) (finishes job c.args.boundary c.args.run.now c.loop-kind.run
    c.turn.new.self c.in_ok-kind.field-0 c.in_default.is inv.stays c.in_ok-kind.ensures.goes)

pub returns-then-cycles-bound-clause-goes : goal.returns-then-cycles-bound-clause-goes
returns-then-cycles-bound-clause-goes c =
    let job = job_of c.args.job.now in
    let inv = c.loop-kind.invariant in
    let after = finished job c.loop-kind.run c.turn.new.self c.in_ok-kind.field-0 c.in_default.is
    c.in_ok-kind.ensures.turned in
    let bound = ap (λ (b : Boundary). b.bound) c.boundary.ensures in
    at_bound job c.args.boundary c.loop-kind.run.board.place.cycle c.args.run.now c.turn.new.self after.0 after.1.cycles
    (ap (is_named (addresses_of job)) (sym c.at.ensures) ∙ sym c.is_boundary.ensures ∙ c.if-is_boundary.false)
    (omega (arith, inv.cycles, c.if-cycles-bound.true, bound))
    (finishes job c.args.boundary c.args.run.now c.loop-kind.run
    c.turn.new.self c.in_ok-kind.field-0 c.in_default.is inv.stays c.in_ok-kind.ensures.goes)

pub loop-kind-preserved : goal.loop-kind-preserved
loop-kind-preserved c =
    let job = job_of c.args.job.now in
    let inv = c.loop-kind.invariant in
    let e = c.in_ok-kind.ensures in
    let after = finished job c.loop-kind.run c.turn.new.self c.in_ok-kind.field-0 c.in_default.is e.turned in
    let bound = ap (λ (b : Boundary). b.bound) c.boundary.ensures in
    record {
      under = after.0;
      idle = after.1.idle;
      cycles = omega (arith, inv.cycles, after.1.cycles);
      below = omega (arith, inv.below, c.if-cycles-bound.false, bound);
      later = later_then _ _ _ inv.later e.later;
      stays = stays_next job c.args.boundary c.loop-kind.run.board.place.cycle c.args.run.now c.turn.new.self
          after.1.cycles
          (ap (is_named (addresses_of job)) (sym c.at.ensures) ∙ sym c.is_boundary.ensures ∙ c.if-is_boundary.false)
          (omega (arith, inv.below, inv.cycles, c.if-cycles-bound.false, bound))
          (finishes job c.args.boundary c.args.run.now c.loop-kind.run
          c.turn.new.self c.in_ok-kind.field-0 c.in_default.is inv.stays c.in_ok-kind.ensures.goes);
    }

pub returns-in-Ask-clause-later : goal.returns-in-Ask-clause-later
returns-in-Ask-clause-later c = later_then _ _ _ c.loop-kind.invariant.later c.in_ok-kind.ensures.later

pub returns-then-is_boundary-clause-later : goal.returns-then-is_boundary-clause-later
returns-then-is_boundary-clause-later c = later_then _ _ _ c.loop-kind.invariant.later c.in_ok-kind.ensures.later

pub returns-then-cycles-bound-clause-later : goal.returns-then-cycles-bound-clause-later
returns-then-cycles-bound-clause-later c = later_then _ _ _ c.loop-kind.invariant.later c.in_ok-kind.ensures.later
