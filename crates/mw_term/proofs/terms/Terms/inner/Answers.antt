use Rattle.std.proofs.Common.{◌≡◌, ◌<◌, ◌∙◌, Some, length, arith, sym}
use Rattle.mw_term.specs.Hints.{operand_at}
use Rattle.mw_term.specs.Table.{widths_of}
use Rattle.mw_term.proofs.Operands.{operands_there}
use Rattle.mw_term.proofs.Tables.{widths_count}
use Rattle.mw_term.proofs.terms.Terms.inner.Goals as goal

pub op-requires : goal.op-requires
op-requires c =
    let t = c.args.self.now in
    let is : operand_at c.args.op.now c.args.place ≡ Some c.in_ok-operand.operand =
    sym c.operand.ensures ∙ c.in_ok-operand.was in
    let there : c.in_ok-operand.operand < length (widths_of t.ops) =
    operands_there t.map (widths_of t.ops) c.args.op.now c.args.place c.in_ok-operand.operand c.requires is in
    omega (arith, there, widths_count t.ops)
