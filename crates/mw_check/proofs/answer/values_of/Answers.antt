use Rattle.std.proofs.Common.{arith}
use Rattle.mw_term.specs.Assigned.{given_by}
use Rattle.mw_check.proofs.Loops.{values_end}
use Rattle.mw_check.proofs.answer.values_of.Goals as goal

pub returns : goal.returns
returns c =
    rw c.from_vec.ensures
    (values_end _ c.loop-i.values.items c.args.widths.now (given_by c.args.given.now) c.loop-i.i
    (omega (arith, c.loop-i-test.false)) c.loop-i.invariant)
