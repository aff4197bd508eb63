use Rattle.std.proofs.Common.{◌∙◌, sym, arith}
use Rattle.std.proofs.lemmas.Grind.{common_steps}
use Rattle.std.proofs.lemmas.List.Elements.{All-push}
use Rattle.mw_boardfile.specs.Kept.{Kept}
use Rattle.mw_boardfile.proofs.Kept.{of_value}
use Rattle.mw_boardfile.proofs.Loops.{one_more, ends, all_read}
use Rattle.mw_boardfile.proofs.lists.each.Goals as goal

pub returns-in-Err-clause-exact : goal.returns-in-Err-clause-exact
returns-in-Err-clause-exact g c = λ reader reads.
    rw c.at.ensures (ends reader c.in-Err.cause c.loop-n.done.items c.args.values.now c.loop-n.n c.index-values-n.result
    _ c.loop-n-test.true c.index-values-n.is (sym (reads _ _ c.read.ensures) ∙ c.in-Err.is)
    (c.loop-n.invariant.1 reader reads))

pub loop-n-preserved : goal.loop-n-preserved
loop-n-preserved g c = (
  c.loop-n.invariant.0,
  λ reader reads.
      rw c.in_ok-push-in-Ok.ensures.items (one_more reader c.loop-n.done.items c.in-Ok.x c.args.values.now c.loop-n.n
      c.index-values-n.result _ c.loop-n-test.true c.index-values-n.is (sym (reads _ _ c.read.ensures) ∙ c.in-Ok.is)
      (c.loop-n.invariant.1 reader reads)),
  (let count = c.loop-n.invariant.2 in rw c.in_ok-push-in-Ok.ensures.items (grind (arith, common_steps, count))),
  (let within = c.loop-n-test.true in omega (arith, within)),
  λ rule keeps.
      rw c.in_ok-push-in-Ok.ensures.items (All-push (λ x. Kept (rule x)) c.loop-n.done.items c.in-Ok.x
      (c.loop-n.invariant.4 rule keeps) (of_value (λ x. Kept (rule x)) c.in-Ok.is (keeps _ _ c.read.ensures))),
)

pub returns-clause-exact : goal.returns-clause-exact
returns-clause-exact g c = λ reader reads. rw c.from_vec.ensures (all_read reader c.loop-n.done.items c.args.values.now
    c.loop-n.n _ c.loop-n-test.false (c.loop-n.invariant.1 reader reads))

pub returns-clause-kept : goal.returns-clause-kept
returns-clause-kept g c = λ rule keeps. rw c.from_vec.ensures (c.loop-n.invariant.4 rule keeps)
