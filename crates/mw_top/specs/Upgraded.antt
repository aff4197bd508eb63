-- What a call ends with that prints a board file of version 2.
use Rattle.std.specs.Prelude.{◌≡◌, ℕ, List, Ok}
use Rattle.mw_board.specs.declared.parts.BoardParts.{BoardParts}
use Rattle.mw_boardfile.specs.Board.{board_of}
use Rattle.mw_boardfile.specs.Printed.{IsPrinted}
use Rattle.mw_plan.specs.Files.{IsLeft}
use Rattle.mw_plan.specs.Plan.{done}
use Rattle.mw_top.specs.declared.commands.Task.TheVariants as tasks
use Rattle.mw_top.specs.declared.commands.Work.TheVariants as works
use Rattle.mw_top.specs.declared.status.Status.{Status}
use Rattle.mw_top.specs.declared.status.Status.TheVariants.{Done}
use Rattle.mw_top.specs.Asked.{AsksFor}
use Rattle.mw_top.specs.Call.{Call, Took}
use Rattle.mw_top.specs.Commands.Upgrade.{upgrade_plan}
use Rattle.mw_top.specs.Request.{files_of}

-- The file was read and accepted, and the sink took the file of version 2 that is printed for its board, and spells it.
pub record IsUpgradeEnd (call : Call) (status : Status) : Type 0 where
  pub asks : AsksFor tasks.Upgrade call
  pub contents : List (List ℕ)
  pub board : BoardParts
  pub made : IsLeft upgrade_plan call.shelf_before (files_of asks.request contents) (done (works.Upgrade board))
  pub status_is : status ≡ Done
  pub text : List ℕ
  pub report : Took call text
  pub printed : IsPrinted board text
  pub same : board_of text ≡ Ok board
