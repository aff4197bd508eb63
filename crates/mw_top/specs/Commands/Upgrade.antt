-- upgrade: a board file.
use Rattle.std.specs.Prelude.{◌≡◌, ℕ, List, Ok}
use Rattle.mw_board.specs.declared.parts.BoardParts.{BoardParts}
use Rattle.mw_boardfile.specs.Board.{board_of}
use Rattle.mw_boardfile.specs.Printed.{IsPrinted}
use Rattle.mw_plan.specs.Plan.{Plan, done, ◌>>=◌, next_by}
use Rattle.mw_top.specs.declared.commands.Work.{Work}
use Rattle.mw_top.specs.declared.commands.Work.TheVariants as works
use Rattle.mw_top.specs.declared.fault.Fault.{Fault}
use Rattle.mw_top.specs.declared.fault.Fault.TheVariants.{Board}
use Rattle.mw_top.specs.declared.status.Status.{Status}
use Rattle.mw_top.specs.declared.status.Status.TheVariants.{Done}

-- the board of the file
unfoldable pub upgrade_plan : Plan Fault Work
upgrade_plan = do
  board ← next_by Board board_of
  done (works.Upgrade board)

-- the report is the file that is printed for the board, of version 2, and spells the same board
pub record IsUpgrade (board : BoardParts) (status : Status) (report : List ℕ) : Type 0 where
  pub status_is : status ≡ Done
  pub printed : IsPrinted board report
  pub same : board_of report ≡ Ok board
