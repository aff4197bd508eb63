use Rattle.std.proofs.Common.{arith}
use Rattle.mw_space.proofs.Placing.{one_filled, put_named, put_trimmed, put_waits}
use Rattle.mw_space.proofs.outside.put.Goals as goal

pub loop-env-preserved : goal.loop-env-preserved
loop-env-preserved c = record {
  filled = one_filled c.args.series c.args.number c.args.env.now c.loop-env.env c.push.new.self
      (omega (arith, c.length.ensures, c.loop-env-test.true)) c.in_ok-push.ensures c.loop-env.invariant.filled;
}

pub returns-clause-took : goal.returns-clause-took
returns-clause-took c = λ side kind named.
    put_named side kind c.args.series c.args.number c.args.value c.args.env.now c.loop-env.env c.set.new.self named
    c.requires.width (omega (arith, c.length.ensures, c.loop-env-test.false)) c.loop-env.invariant.filled
    c.set.ensures

pub returns-clause-wait : goal.returns-clause-wait
returns-clause-wait c =
    put_waits c.args.series c.args.number c.args.value c.args.env.now c.loop-env.env c.set.new.self
    c.loop-env.invariant.filled c.set.ensures

pub returns-clause-trimmed : goal.returns-clause-trimmed
returns-clause-trimmed c =
    put_trimmed c.args.series c.args.number c.args.value c.args.env.now c.loop-env.env c.set.new.self c.requires.some
    c.requires.width (omega (arith, c.length.ensures, c.loop-env-test.false)) c.loop-env.invariant.filled c.set.ensures
