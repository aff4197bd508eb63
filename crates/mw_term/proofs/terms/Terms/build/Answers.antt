use Rattle.std.proofs.Common.{◌∙◌, subst, sym, ap, refl}
use Rattle.mw_term.specs.Hints.{IsRight}
use Rattle.mw_term.specs.Table.{IsTable, width_over}
use Rattle.mw_term.proofs.Hinting.{constant_fits, constant_made, operand_made, operand_missing, inner_made}
use Rattle.mw_term.proofs.Hinting.{inner_missing}
use Rattle.mw_term.proofs.terms.Terms.build.Goals as goal

pub intern-requires-in-Constant : goal.intern-requires-in-Constant
intern-requires-in-Constant g c =
    let right = subst (IsRight c.args.self.now c.args.op) c.in-Constant.is c.ask.ensures.right in
    let table = subst IsTable c.self.view_is c.self.invariant.table in
    rw (c.width_over-width.ensures, c.self.view_is)
    (constant_fits c.args.self.now c.args.op c.in-Constant.number table c.requires right)

pub unreachable-requires : goal.unreachable-requires
unreachable-requires g c =
    let right = subst (IsRight c.args.self.now c.args.op) c.in-Operand.is c.ask.ensures.right in
    let table = subst IsTable c.self.view_is c.self.invariant.table in
    operand_missing c.args.self.now c.args.op c.in-Operand.place table c.requires right
    (sym c.operand.ensures ∙ c.in-None.is)

pub unreachable-requires-in-None-inner : goal.unreachable-requires-in-None-inner
unreachable-requires-in-None-inner g c =
    let right = subst (IsRight c.args.self.now c.args.op) c.in-Inner.is c.ask.ensures.right in
    let table = subst IsTable c.self.view_is c.self.invariant.table in
    inner_missing c.args.self.now c.args.op c.in-Inner.place c.in-Inner.inner table c.requires right
    (sym c.inner.ensures ∙ c.in-None-inner.is)

pub returns-in_ok-term-in-Nothing-clause-hinted : goal.returns-in_ok-term-in-Nothing-clause-hinted
returns-in_ok-term-in-Nothing-clause-hinted g c =
    (c.ask.result, _, refl, c.ask.ensures.first, rw c.in-Nothing.is c.in_ok-term-in-Nothing.ensures.has)

pub returns-in_ok-term-in-Constant-clause-made : goal.returns-in_ok-term-in-Constant-clause-made
returns-in_ok-term-in-Constant-clause-made g c =
    let right = subst (IsRight c.args.self.now c.args.op) c.in-Constant.is c.ask.ensures.right in
    constant_made c.args.self.now _ c.args.op c.in-Constant.number c.width_over-width.result
    c.in_ok-term-in-Constant.term right (c.width_over-width.ensures ∙ ap (λ t. width_over t c.args.op) c.self.view_is)
    c.in_ok-term-in-Constant.ensures.made

pub returns-in_ok-term-in-Constant-clause-hinted : goal.returns-in_ok-term-in-Constant-clause-hinted
returns-in_ok-term-in-Constant-clause-hinted g c =
    let has = rw (c.width_over-width.ensures, c.self.view_is) at c.in_ok-term-in-Constant.ensures.has in
    (c.ask.result, _, refl, c.ask.ensures.first, rw c.in-Constant.is has)

pub returns-in-Some-clause-hinted : goal.returns-in-Some-clause-hinted
returns-in-Some-clause-hinted g c =
    (c.ask.result, _, refl, c.ask.ensures.first, rw c.in-Operand.is (sym c.operand.ensures ∙ c.in-Some.is))

pub returns-in-Some-inner-clause-hinted : goal.returns-in-Some-inner-clause-hinted
returns-in-Some-inner-clause-hinted g c =
    (c.ask.result, _, refl, c.ask.ensures.first, rw c.in-Inner.is (sym c.inner.ensures ∙ c.in-Some-inner.is))

pub returns-in-Some-clause-made : goal.returns-in-Some-clause-made
returns-in-Some-clause-made g c =
    let right = subst (IsRight c.args.self.now c.args.op) c.in-Operand.is c.ask.ensures.right in
    operand_made c.args.self.now c.args.op c.in-Operand.place c.in-Some.term c.requires right
    (sym c.operand.ensures ∙ c.in-Some.is)

pub returns-in-Some-inner-clause-made : goal.returns-in-Some-inner-clause-made
returns-in-Some-inner-clause-made g c =
    let right = subst (IsRight c.args.self.now c.args.op) c.in-Inner.is c.ask.ensures.right in
    let table = subst IsTable c.self.view_is c.self.invariant.table in
    inner_made c.args.self.now c.args.op c.in-Inner.place c.in-Inner.inner c.in-Some-inner.term table right
    (sym c.inner.ensures ∙ c.in-Some-inner.is)
