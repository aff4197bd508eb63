use Rattle.std.proofs.Common.{sym, ◌∙◌}
use Rattle.mw_term.specs.declared.side.Side.TheVariants.{Board, Machine}
use Rattle.mw_symrows.proofs.Starting.{free_no_later, free_widths}
use Rattle.mw_symrows.proofs.workspace.standing.Goals as goal

pub returns-in_ok-made-in-None-clause-symbolic : goal.returns-in_ok-made-in-None-clause-symbolic
returns-in_ok-made-in-None-clause-symbolic c = λ store t words m at sp are wide free.
    c.in_ok-made-in-None.ensures.symbolic store t words m at sp are
    (free_widths Board c.args.board.now t words free) (free_no_later Board words free)

pub returns-in_ok-made-in-Some-clause-symbolic : goal.returns-in_ok-made-in-Some-clause-symbolic
returns-in_ok-made-in-Some-clause-symbolic c = λ store t words m at sp are wide free.
    c.in_ok-made-in-Some.ensures.symbolic store t words m at sp are (wide c.in-Some.line c.in-Some.is)
    (free_widths Machine c.args.board.now t words free) (free_no_later Machine words free)
