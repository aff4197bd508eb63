use Rattle.mw_short.proofs.Shortcuts.{branch_right}
use Rattle.mw_short.proofs.folded.fixed_choice.Goals as goal

pub returns-in-Ite-clause-right : goal.returns-in-Ite-clause-right
returns-in-Ite-clause-right c =
    let fits = rw c.in-Ite.is at c.requires in
    rw (c.in-Ite.is, c.branch_of.ensures)
    (branch_right c.args.terms.now c.in-Ite.c c.in-Ite.field-1 c.in-Ite.field-2 c.constant_number.result fits
    c.constant_number.ensures.value)
