use Rattle.mw_short.proofs.Shortcuts.{and_right, or_right, xor_right, eq_right, lt_right, ite_right}
use Rattle.mw_short.proofs.same.same_operands.Goals as goal

pub returns-in-And-clause-right : goal.returns-in-And-clause-right
returns-in-And-clause-right c =
    rw (c.in-And.is, c.where_same.ensures) (and_right c.args._terms.now c.in-And.a c.in-And.b)

pub returns-in-Or-clause-right : goal.returns-in-Or-clause-right
returns-in-Or-clause-right c =
    rw (c.in-Or.is, c.where_same-in-Or.ensures) (or_right c.args._terms.now c.in-Or.a c.in-Or.b)

pub returns-in-Xor-clause-right : goal.returns-in-Xor-clause-right
returns-in-Xor-clause-right c =
    rw (c.in-Xor.is, c.where_same-in-Xor.ensures) (xor_right c.args._terms.now c.in-Xor.a c.in-Xor.b)

pub returns-in-Eq-clause-right : goal.returns-in-Eq-clause-right
returns-in-Eq-clause-right c =
    rw (c.in-Eq.is, c.where_same-in-Eq.ensures) (eq_right c.args._terms.now c.in-Eq.a c.in-Eq.b)

pub returns-in-Lt-clause-right : goal.returns-in-Lt-clause-right
returns-in-Lt-clause-right c =
    rw (c.in-Lt.is, c.where_same-in-Lt.ensures) (lt_right c.args._terms.now c.in-Lt.a c.in-Lt.b)

pub returns-in-Ite-clause-right : goal.returns-in-Ite-clause-right
returns-in-Ite-clause-right c =
    rw (c.in-Ite.is, c.where_same-in-Ite.ensures) (ite_right c.args._terms.now c.in-Ite.field-0 c.in-Ite.a c.in-Ite.b)
