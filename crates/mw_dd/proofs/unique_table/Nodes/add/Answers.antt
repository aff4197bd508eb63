use Rattle.std.proofs.Common.{◌∙◌, ◌++◌, ◌∷◌, [], List, ap, subst, sym}
use Rattle.std.proofs.lemmas.Result.{on_ok_weaker, on_err_weaker}
use Rattle.mw_dd.specs.declared.nodes.Node.{Node}
use Rattle.mw_dd.specs.Stored.{nodes_of, AreKnown}
use Rattle.mw_dd.proofs.Public.{in_both, on_err_anyway}
use Rattle.mw_dd.proofs.Stored.{known-more, nodes-more, known-push, nodes-push, stored_as}
use Rattle.mw_dd.proofs.unique_table.Nodes.add.Goals as goal

pub returns-in_err-index-clause-err : goal.returns-in_err-index-clause-err
returns-in_err-index-clause-err c =
    on_err_anyway c.from_residual.result
    (nodes-more c.self.inside.variables c.self.inside.stored c.self.invariant c.index_for.new.variables
    c.args.node.variable c.index_for.ensures.more
    ∙ c.self.view_is)

pub invariant_of-self-2 : goal.invariant_of-self-2
invariant_of-self-2 c =
    let variables = c.index_for.new.variables in
    let known : AreKnown variables c.self.inside.stored =
    known-more c.self.inside.variables c.self.inside.stored c.self.invariant variables c.args.node.variable
    c.index_for.ensures.more in
    in_both c.add.result
    (on_ok_weaker c.add.result
    (λ items. subst (AreKnown variables) (sym items)
    (known-push variables c.self.inside.stored (stored_as c.in_ok-index.index c.args.node) c.args.node.variable known
    c.in_ok-index.ensures.there)) c.add.ensures.items)
    (on_err_weaker c.add.result (λ stay. subst (AreKnown variables) (sym stay) known) c.add.ensures.err)

pub returns-clause-items : goal.returns-clause-items
returns-clause-items c =
    let variables = c.index_for.new.variables in
    let same = nodes-more c.self.inside.variables c.self.inside.stored c.self.invariant variables c.args.node.variable
    c.index_for.ensures.more
    ∙ c.self.view_is in
    on_ok_weaker c.add.result
    (λ items. ap (nodes_of variables) items
    ∙ nodes-push variables c.self.inside.stored c.in_ok-index.index c.args.node c.in_ok-index.ensures.there
    ∙ ap (λ (ns : List Node). ns ++ c.args.node ∷ []) same) c.add.ensures.items

pub returns-clause-err : goal.returns-clause-err
returns-clause-err c =
    let variables = c.index_for.new.variables in
    let same = nodes-more c.self.inside.variables c.self.inside.stored c.self.invariant variables c.args.node.variable
    c.index_for.ensures.more
    ∙ c.self.view_is in
    on_err_weaker c.add.result (λ stay. ap (nodes_of variables) stay ∙ same) c.add.ensures.err
