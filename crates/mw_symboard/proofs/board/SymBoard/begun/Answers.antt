use Rattle.std.proofs.Common.{refl, rules}
use Rattle.mw_symboard.proofs.Begun.{begun_symbolic, parts_of_elements}
use Rattle.mw_symboard.proofs.board.SymBoard.begun.Goals as goal

pub returns-clause-symbolic : goal.returns-clause-symbolic
returns-clause-symbolic c = λ store t words m at sp elements line widths none.
    begun_symbolic c.args.board.now store t words m _ at sp
    (parts_of_elements c.args.board.now t c.args.elements.now _ elements c.in_ok-new.ensures.exact
    c.in_ok-new.ensures.regs c.in_ok-new.ensures.flips c.in_ok-new.ensures.stack)
    line widths (search rules) (search rules) refl refl none
