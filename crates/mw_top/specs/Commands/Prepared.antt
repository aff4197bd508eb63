-- The first three files of a command that runs a board: a board file, a microprogram for its board, and an environment.
use Rattle.mw_asm.specs.Microprogram.{store_of}
use Rattle.mw_boardfile.specs.Board.{board_of}
use Rattle.mw_plan.specs.Plan.{Plan, ◌>>=◌, next_by}
use Rattle.mw_sim.specs.Start.{start_of}
use Rattle.mw_top.specs.declared.commands.Work.{Work}
use Rattle.mw_top.specs.declared.fault.Fault.{Fault}
use Rattle.mw_top.specs.declared.fault.Fault.TheVariants.{Board, Text}
use Rattle.mw_top.specs.Work.{Prepared}

-- the board of the first file, what the second is assembled to for it, and the start of the third; then the rest
abbrev pub prepared_plan : (Prepared → Plan Fault Work) → Plan Fault Work
prepared_plan rest =
    next_by Board board_of >>= λ board.
    next_by Text (store_of board) >>= λ made.
    next_by Text (start_of board made.labels) >>= λ start.
    rest (record { program = record { board = board; made = made }; start = start })
