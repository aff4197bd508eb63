use Rattle.std.proofs.Common.{sym, ◌∙◌}
use Rattle.mw_expr.specs.Written.{written}
use Rattle.mw_expr.proofs.Small.{small_whole}
use Rattle.mw_check.proofs.Sides.{first_with, own_none, side_fails}
use Rattle.mw_check.proofs.side.side_in.Goals as goal

pub build-requires : goal.build-requires
build-requires c =
    let told = rw c.check-width.ensures.width at c.note_uneven.ensures in
    let first = first_with c.args.shape.now c.args.before c.args.word (written c.args.tree.now) _ _
    c.check-width.ensures.faults told in
    small_whole c.args.shape.now (written c.args.tree.now) c.requires.proper
    (own_none c.args.shape.now c.args.before c.args.word (written c.args.tree.now) (sym c.in-None.is ∙ first))

pub returns-in-Some : goal.returns-in-Some
returns-in-Some c =
    let told = rw c.check-width.ensures.width at c.note_uneven.ensures in
    let first = first_with c.args.shape.now c.args.before c.args.word (written c.args.tree.now) _ _
    c.check-width.ensures.faults told in
    side_fails c.args.shape.now c.args.before c.args.word (written c.args.tree.now) _ (sym c.in-Some.is ∙ first)
