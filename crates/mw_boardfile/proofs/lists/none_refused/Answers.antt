use Rattle.std.proofs.Common.{◌∙◌, sym, ap}
use Rattle.mw_boardfile.specs.Lists.{is_refused}
use Rattle.mw_boardfile.proofs.Loops.{refused, not_refused, all_taken}
use Rattle.mw_boardfile.proofs.lists.none_refused.Goals as goal

pub returns-then-is_refused : goal.returns-then-is_refused
returns-then-is_refused g c = λ reader reads.
    let fails =
    ap (is_refused c.args.cause) (sym (reads _ _ c.read.ensures)) ∙ sym c.is_refused.ensures ∙ c.if-is_refused.true in
    rw c.at.ensures (refused reader c.args.cause c.args.values.now c.loop-n.n c.index-values-n.result _
    c.loop-n-test.true c.index-values-n.is fails (c.loop-n.invariant.1 reader reads))

pub loop-n-preserved : goal.loop-n-preserved
loop-n-preserved g c = (
  c.loop-n.invariant.0,
  λ reader reads.
      let holds = ap (is_refused c.args.cause) (sym (reads _ _ c.read.ensures))
      ∙ sym c.is_refused.ensures
      ∙ c.if-is_refused.false in
      not_refused reader c.args.cause c.args.values.now c.loop-n.n c.index-values-n.result _ c.loop-n-test.true
      c.index-values-n.is holds (c.loop-n.invariant.1 reader reads),
)

pub returns : goal.returns
returns g c = λ reader reads.
    all_taken reader c.args.cause c.args.values.now c.loop-n.n _ c.loop-n-test.false (c.loop-n.invariant.1 reader reads)
