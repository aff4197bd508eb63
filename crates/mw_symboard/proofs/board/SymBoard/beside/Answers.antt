use Rattle.std.proofs.Common.{subst}
use Rattle.std.proofs.lemmas.Option.{same_Some}
use Rattle.mw_symmem.specs.Memory.{IsOfWidth}
use Rattle.mw_symboard.proofs.board.SymBoard.beside.Goals as goal

pub returns-clause-symbolic : goal.returns-clause-symbolic
returns-clause-symbolic c = λ store t words m at sp are wide widths none.
    c.in_ok-begun.ensures.symbolic store t words m at sp are (λ term is. subst (IsOfWidth t 1) (same_Some c.args.line term is) wide) widths none
