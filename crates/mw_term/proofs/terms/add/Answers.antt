use Rattle.std.proofs.Common.{rules, ◌≡◌, true, ◌∙◌}
use Rattle.mw_term.specs.declared.op.Op.{Op}
use Rattle.mw_term.specs.contracts.op.OpPartialEq.TheImpl.{ghosts}
use Rattle.mw_term.proofs.Hinting.{absent_before, added_last}
use Rattle.mw_term.proofs.terms.add.Goals as goal

pub returns-clause-new : goal.returns-clause-new
returns-clause-new c = λ new.
    (let e = c.in_ok-insert_full.ensures in
    let last = added_last ghosts.eq c.args.ops.now.keys c.args.op.now c.in_ok-insert_full.field-0.1 e.added new in
    (e.keys ∙ last.0, e.index ∙ last.1))

own_op : (op : Op) → ghosts.eq op op ≡ true
own_op op = search rules

pub returns-clause-absent : goal.returns-clause-absent
returns-clause-absent c = λ new place is.
    absent_before ghosts.eq own_op c.args.ops.now.keys c.args.op.now c.in_ok-insert_full.field-0.1
    c.in_ok-insert_full.ensures.added new place is
