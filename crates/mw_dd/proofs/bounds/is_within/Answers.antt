use Rattle.std.proofs.Common.{refl}
use Rattle.std.proofs.lemmas.Result.{IfOk-weaker}
use Rattle.mw_dd.proofs.Keeping.{within-count}
use Rattle.mw_dd.proofs.Products.{product-bound}
use Rattle.mw_dd.proofs.bounds.is_within.Goals as goal

pub returns-then-was_within-clause-within : goal.returns-then-was_within-clause-within
returns-then-was_within-clause-within c = λ yes.
    within-count c.args.nodes.now c.args.counts.now c.args.t.now c.args.budget c.requires.counted
    (c.if-was_within.ensures refl)

pub returns-clause-within : goal.returns-clause-within
returns-clause-within c =
    IfOk-weaker c.are_within.result _ _
    (λ few are yes.
    product-bound c.args.nodes.now c.requires.reduced c.telling.result c.args.t.now c.args.budget (are yes)
    (c.telling.ensures.determine c.args.nodes.now c.requires.made)) c.are_within.ensures.within
