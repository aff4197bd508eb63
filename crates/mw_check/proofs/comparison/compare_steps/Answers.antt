use Rattle.std.proofs.Common.{◌≡◌, ℕ, refl, sym, subst, arith}
use Rattle.mw_rel.specs.Views.{job_of}
use Rattle.mw_replay.specs.Replay.{IsReached, next_start}
use Rattle.mw_replay.proofs.Steps.{steps_differ}
use Rattle.mw_check.proofs.comparison.compare_steps.Goals as goal

pub loop-made-init : goal.loop-made-init
loop-made-init g c =
    record { stands = c.requires.stands; few = c.requires.none; reached = IsReached.begins }

pub returns-in-Some : goal.returns-in-Some
returns-in-Some g c =
    let job = job_of c.args.job.now in
    let differs = steps_differ job (next_start job c.args.replay.now) c.loop-made.made c.in-Some.difference
    c.in-Some.ensures.valid c.requires.stands.start in (
      omega (arith, c.loop-made-test.true),
      differs.1 (next_start job c.loop-made.replay, c.loop-made.invariant.reached, sym c.in-Some.ensures.shown),
    )

pub loop-made-preserved : goal.loop-made-preserved
loop-made-preserved g c =
    let job = job_of c.args.job.now in
    record {
      stands = c.in_default.ensures.stands refl;
      few = c.in_default.ensures.few;
      reached = IsReached.goes_on c.loop-made.made (next_start job c.loop-made.replay)
          (next_start job c.next_step.new.replay) c.loop-made.invariant.reached (sym c.in_default.ensures.shown)
          (c.in_default.ensures.follows refl);
    }

pub returns : goal.returns
returns g c =
    let job = job_of c.args.job.now in
    let all : c.loop-made.made ≡ c.args.steps = omega (arith, c.loop-made-test.false, c.loop-made.auto.made-end) in (
      next_start job c.loop-made.replay,
      subst (λ (n : ℕ). IsReached job (next_start job c.args.replay.now) n (next_start job c.loop-made.replay)) all
          c.loop-made.invariant.reached,
    )
