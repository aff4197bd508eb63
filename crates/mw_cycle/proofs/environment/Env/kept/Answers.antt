use Rattle.std.proofs.Common.{◌∙◌, arith}
use Rattle.mw_cycle.specs.Environment.{values_of}
use Rattle.mw_cycle.proofs.Lists.{kept_front}
use Rattle.mw_cycle.proofs.environment.Env.kept.Goals as goal

pub returns-else-value-eq0-clause-exact : goal.returns-else-value-eq0-clause-exact
returns-else-value-eq0-clause-exact c =
    kept_front (values_of c.args.self.now c.args.series) c.loop-kept.kept c.loop-kept.invariant.within
    c.loop-kept.invariant.rest (λ some none. c.if-value-eq0.false (c.value.ensures ∙ none))

pub returns-after-loop-kept-clause-exact : goal.returns-after-loop-kept-clause-exact
returns-after-loop-kept-clause-exact c =
    kept_front (values_of c.args.self.now c.args.series) c.loop-kept.kept c.loop-kept.invariant.within
    c.loop-kept.invariant.rest (λ some. absurd (omega (arith, c.loop-kept-test.false)))
