use Rattle.mw_symboard.proofs.board.SymBoard.new.Goals as goal

pub returns-clause-symbolic : goal.returns-clause-symbolic
returns-clause-symbolic c = λ store t words m at sp are widths none.
    c.in_ok-begun.ensures.symbolic store t words m at sp are (λ term is. absurd cc) widths none
