use Rattle.std.proofs.Common.{arith, rules, sym}
use Rattle.std.proofs.lemmas.Result.{err_from_is_err_and}
use Rattle.mw_asm.specs.declared.assembled.Assembled.{Assembled}
use Rattle.mw_asm.specs.Microprogram.{store_of}
use Rattle.mw_board.specs.declared.parts.BoardParts.{BoardParts}
use Rattle.mw_boardfile.specs.Board.{board_of}
use Rattle.mw_outside.specs.Views.{shelf_shown}
use Rattle.mw_plan.specs.Plan.{Plan, first_by}
use Rattle.mw_plan.proofs.Reading.{later_still}
use Rattle.mw_top.specs.declared.commands.Work.{Work}
use Rattle.mw_asm.specs.declared.program.Program.{Program}
use Rattle.mw_top.specs.declared.fault.Fault.{Fault}
use Rattle.mw_top.specs.declared.fault.Fault.TheVariants.{Board, Text}
use Rattle.mw_top.proofs.commands.microprogram.read_microprogram.Goals as goal

-- what follows the microprogram, and the board
abbrev after_microprogram : (Program → Plan Fault Work) → BoardParts → Assembled → Plan Fault Work
after_microprogram rest board made = rest (record { board = board; made = made })

abbrev after_board : (Program → Plan Fault Work) → BoardParts → Plan Fault Work
after_board rest board = first_by Text (store_of board) (after_microprogram rest board)

pub next-requires-2-clause-callable : goal.next-requires-2-clause-callable
next-requires-2-clause-callable g c = λ bytes few _ _ _ _ _ _. omega (arith, few)

pub returns-in_err-board-clause-follows : goal.returns-in_err-board-clause-follows
returns-in_err-board-clause-follows g c = λ plan rest first since left.
    let error = err_from_is_err_and c.from_residual.result c.from_residual.ensures.1 in
    rw error.1 (rw (sym error.2) at (c.in_err-board.ensures.follows Board board_of (λ fault seen is. is)
    (λ bytes result is. search rules) plan (after_board rest) first since left))

pub returns-in_err-made-clause-follows : goal.returns-in_err-made-clause-follows
returns-in_err-made-clause-follows g c = λ plan rest first since left.
    let error = err_from_is_err_and c.from_residual-in_err-made.result c.from_residual-in_err-made.ensures.1 in
    let board = c.in_ok-board.ensures.follows Board board_of (λ fault seen is. is)
    (λ bytes result is. search rules) plan (after_board rest) first since left in
    rw error.1 (rw (sym error.2) at (c.in_err-made.ensures.follows Text (store_of c.in_ok-board.board)
    (λ fault seen is. is) (λ bytes result is. search rules) plan (after_microprogram rest c.in_ok-board.board) first
    (later_still _ (shelf_shown g.S.Shelf c.args.shelf.now) _ since c.in_ok-board.ensures.later) board))

pub returns-clause-follows : goal.returns-clause-follows
returns-clause-follows g c = λ plan rest first since left.
    let board = c.in_ok-board.ensures.follows Board board_of (λ fault seen is. is)
    (λ bytes result is. search rules) plan (after_board rest) first since left in
    c.in_ok-made.ensures.follows Text (store_of c.in_ok-board.board) (λ fault seen is. is)
    (λ bytes result is. search rules) plan (after_microprogram rest c.in_ok-board.board) first
    (later_still _ (shelf_shown g.S.Shelf c.args.shelf.now) _ since c.in_ok-board.ensures.later) board

pub returns-in_err-made-clause-later : goal.returns-in_err-made-clause-later
returns-in_err-made-clause-later g c =
    later_still _ (shelf_shown g.S.Shelf c.next.new.shelf) _ c.in_ok-board.ensures.later c.in_err-made.ensures.later

pub returns-clause-later : goal.returns-clause-later
returns-clause-later g c =
    later_still _ (shelf_shown g.S.Shelf c.next.new.shelf) _ c.in_ok-board.ensures.later c.in_ok-made.ensures.later
