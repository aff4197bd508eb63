use Rattle.std.proofs.Common.{arith, refl, true, false}
use Rattle.std.proofs.lemmas.Bool.{false≢true}
use Rattle.mw_dd.proofs.Made.{branch-other, branch-low, branch-high}
use Rattle.mw_dd.proofs.nodes.branches_at.Goals as goal

pub returns-then-not-is-clause-low : goal.returns-then-not-is-clause-low
returns-then-not-is-clause-low c =
    branch-other c.args.nodes.now c.args.x c.args.variable c.inner-node.result false c.requires.there (omega arith)
    c.inner-node.ensures c.requires.from (λ same. false≢true (c.if-not-is.ensures.1 same))

pub returns-then-not-is-clause-high : goal.returns-then-not-is-clause-high
returns-then-not-is-clause-high c =
    branch-other c.args.nodes.now c.args.x c.args.variable c.inner-node.result true c.requires.there (omega arith)
    c.inner-node.ensures c.requires.from (λ same. false≢true (c.if-not-is.ensures.1 same))

pub returns-clause-low : goal.returns-clause-low
returns-clause-low c =
    branch-low c.args.nodes.now c.args.x c.args.variable c.inner-node.result c.requires.there (omega arith)
    c.inner-node.ensures c.requires.reduced (c.if-not-is.ensures.0 refl)

pub returns-clause-high : goal.returns-clause-high
returns-clause-high c =
    branch-high c.args.nodes.now c.args.x c.args.variable c.inner-node.result c.requires.there (omega arith)
    c.inner-node.ensures c.requires.reduced (c.if-not-is.ensures.0 refl)
