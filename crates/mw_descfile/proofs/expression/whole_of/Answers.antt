use Rattle.std.proofs.Common.{◌≡◌, length, refl, ◌∙◌, sym, ap}
use Rattle.mw_expr.specs.Mems.{mems}
use Rattle.mw_expr.specs.Written.{written}
use Rattle.mw_expr.proofs.Small.{small_whole}
use Rattle.mw_descfile.proofs.Expressions.{first_with, whole_fails, whole_goes, own_none}
use Rattle.mw_descfile.proofs.expression.whole_of.Goals as goal

pub returns-in-Some : goal.returns-in-Some
returns-in-Some c =
    let read = rw (c.deref.ensures.value, c.in_ok-mems.ensures) at c.read_after.ensures in
    let first = first_with c.args.shape.now c.args.left
    (written c.args.tree.now) _ _ _ c.requires.own c.note_surplus.ensures read in
    whole_fails _ _ _ _ (sym c.in-Some.is ∙ first)

pub build-requires : goal.build-requires
build-requires c =
    let read = rw (c.deref.ensures.value, c.in_ok-mems.ensures) at c.read_after.ensures in
    let first = first_with c.args.shape.now c.args.left
    (written c.args.tree.now) _ _ _ c.requires.own c.note_surplus.ensures read in
    small_whole c.args.shape.now (written c.args.tree.now) c.requires.proper
    (own_none c.args.shape.now c.args.left (written c.args.tree.now) (sym c.in-None.is ∙ first))

pub returns : goal.returns
returns c =
    let read = rw (c.deref.ensures.value, c.in_ok-mems.ensures) at c.read_after.ensures in
    let first = first_with c.args.shape.now c.args.left
    (written c.args.tree.now) _ _ _ c.requires.own c.note_surplus.ensures read in
    let goes = whole_goes _ _ _ (sym c.in-None.is ∙ first) in
    let count : c.len.result ≡ length (mems (written c.args.tree.now)) =
    c.len.ensures ∙ sym c.deref.ensures.len ∙ ap length (c.deref.ensures.value ∙ c.in_ok-mems.ensures) in
    goes ∙ rw (c.in_ok-build-in-None.ensures, c.saturating_sub.ensures, count) refl
