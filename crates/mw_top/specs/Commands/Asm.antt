-- asm: a board file, and a microprogram for its board.
use Rattle.std.specs.Prelude.{◌≡◌, ℕ, List}
use Rattle.mw_asm.specs.Listing.{listing_of}
use Rattle.mw_asm.specs.Microprogram.{store_of}
use Rattle.mw_boardfile.specs.Board.{board_of}
use Rattle.mw_plan.specs.Plan.{Plan, done, ◌>>=◌, next_by}
use Rattle.mw_top.specs.declared.commands.Work.{Work}
use Rattle.mw_asm.specs.declared.program.Program.{Program}
use Rattle.mw_top.specs.declared.commands.Work.TheVariants.{Assembly}
use Rattle.mw_top.specs.declared.fault.Fault.{Fault}
use Rattle.mw_top.specs.declared.fault.Fault.TheVariants.{Board, Text}
use Rattle.mw_top.specs.declared.status.Status.{Status}
use Rattle.mw_top.specs.declared.status.Status.TheVariants.{Done}

-- the board of the first file, and what the second is assembled to for it
unfoldable pub asm_plan : Plan Fault Work
asm_plan = do
  board ← next_by Board board_of
  made ← next_by Text (store_of board)
  done (Assembly (record { board = board; made = made }))

-- the report is the listing
pub record IsListing (program : Program) (status : Status) (report : List ℕ) : Type 0 where
  pub status_is : status ≡ Done
  pub report_is : report ≡ listing_of program.board program.made
