use Rattle.std.proofs.Common.{◌≡◌}
use Rattle.std.proofs.lemmas.Bool.{false≢true}
use Rattle.mw_dd.proofs.Walks.{walk-low, walk-high, some_number}
use Rattle.mw_dd.proofs.first.first_branch.Goals as goal

pub returns-then-raises-clause-walks : goal.returns-then-raises-clause-walks
returns-then-raises-clause-walks c = λ whole walks.
    let low : c.inner-node.result.low ≡ 0 = c.raises.ensures.0 c.if-raises.true in
    walk-high c.args.nodes.now c.requires.reduced whole c.args.x c.inner-node.result c.requires.inner
    c.inner-node.ensures
    c.args.assignment.now c.raise.new.assignment c.in_ok-raise.ensures.own c.in_ok-raise.ensures.others low walks

pub returns-clause-walks : goal.returns-clause-walks
returns-clause-walks c = λ whole walks.
    walk-low c.args.nodes.now c.requires.reduced whole c.args.x c.inner-node.result c.requires.inner
    c.inner-node.ensures
    c.args.assignment.now (some_number c.inner-node.result.low (λ none. false≢true (c.if-raises.ensures.1 none))) walks
