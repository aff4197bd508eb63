use Rattle.mw_dd.proofs.Made.{top-is}
use Rattle.mw_dd.proofs.nodes.top.Goals as goal

pub returns : goal.returns
returns c =
    let first = c.earlier_variable-first.ensures in
    let second = c.earlier_variable.ensures in
    top-is c.args.nodes.now c.args.t c.variable_of-first.result.variable c.earlier_variable-first.result.variable
    c.earlier_variable.result.variable c.variable_of-first.ensures
    first.own first.no_later first.from second.own second.no_later second.from
