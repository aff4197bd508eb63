use Rattle.std.proofs.Common.{◌∙◌, sym}
use Rattle.mw_boardfile.proofs.Loops.{found, not_yet, nowhere}
use Rattle.mw_boardfile.proofs.lists.first_place.Goals as goal

pub returns-then-test-clause-exact : goal.returns-then-test-clause-exact
returns-then-test-clause-exact g c = λ p tests.
    found p c.args.items.now c.loop-n.n c.index-items-n.result _ c.loop-n-test.true c.index-items-n.is
    (sym (tests _ _ c.test.ensures) ∙ c.if-test.true) (c.loop-n.invariant.1 p tests)

pub loop-n-preserved : goal.loop-n-preserved
loop-n-preserved g c = (
  c.loop-n.invariant.0,
  λ p tests.
      not_yet p c.args.items.now c.loop-n.n c.index-items-n.result _ c.loop-n-test.true c.index-items-n.is
      (sym (tests _ _ c.test.ensures) ∙ c.if-test.false) (c.loop-n.invariant.1 p tests),
)

pub returns-clause-exact : goal.returns-clause-exact
returns-clause-exact g c =
    λ p tests. nowhere p c.args.items.now c.loop-n.n _ c.loop-n-test.false (c.loop-n.invariant.1 p tests)
