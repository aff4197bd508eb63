use Rattle.std.proofs.Common.{refl, rules, sym}
use Rattle.std.proofs.lemmas.Result.{err_from_is_err_and}
use Rattle.mw_board.specs.declared.parts.BoardParts.{BoardParts}
use Rattle.mw_boardfile.specs.Board.{board_of}
use Rattle.mw_outside.specs.Views.{shelf_shown}
use Rattle.mw_plan.specs.Plan.{Plan, done}
use Rattle.mw_plan.proofs.Steps.{at_first, all_left, stops, ends}
use Rattle.mw_top.specs.declared.commands.Work.{Work}
use Rattle.mw_top.specs.declared.commands.Work.TheVariants.{Upgrade}
use Rattle.mw_top.specs.declared.fault.Fault.{Fault}
use Rattle.mw_top.specs.declared.fault.Fault.TheVariants.{Board}
use Rattle.mw_top.specs.Commands.Upgrade.{upgrade_plan}
use Rattle.mw_top.proofs.commands.upgrade.read.Goals as goal

-- what follows the board
abbrev after_board : BoardParts → Plan Fault Work
after_board board = done (Upgrade board)

pub returns-in_err-board-clause-ends : goal.returns-in_err-board-clause-ends
unfolding upgrade_plan
returns-in_err-board-clause-ends g c =
    let error = err_from_is_err_and c.from_residual.result c.from_residual.ensures.1 in
    let first = shelf_shown g.S.Shelf c.args.shelf.now in
    stops after_board upgrade_plan first (shelf_shown g.S.Shelf c.next.new.shelf) _ _
    c.from_residual.result (rw (sym error.2) error.1)
    (c.in_err-board.ensures.follows Board board_of (λ fault seen is. is) (λ bytes result is. search rules) upgrade_plan
    after_board first (at_first first) (all_left upgrade_plan first c.args.files.now c.requires.none_read))

pub returns-clause-ends : goal.returns-clause-ends
unfolding upgrade_plan
returns-clause-ends g c =
    let first = shelf_shown g.S.Shelf c.args.shelf.now in
    ends after_board upgrade_plan first (shelf_shown g.S.Shelf c.next.new.shelf) _ c.in_ok-board.board _ refl
    (c.in_ok-board.ensures.follows Board board_of (λ fault seen is. is) (λ bytes result is. search rules) upgrade_plan
    after_board first (at_first first) (all_left upgrade_plan first c.args.files.now c.requires.none_read))
