-- The first four files of a command on a job: a board file, a microprogram for its board, a described machine, and a
-- relation between both.
use Rattle.std.specs.Prelude.{List}
use Rattle.mw_asm.specs.declared.assembled.Label.{Label}
use Rattle.mw_asm.specs.Microprogram.{store_of}
use Rattle.mw_boardfile.specs.Board.{board_of}
use Rattle.mw_descfile.specs.Machine.{machine_of}
use Rattle.mw_descfile.specs.Relation.{relation_of}
use Rattle.mw_plan.specs.Plan.{Plan, ◌>>=◌, next_by}
use Rattle.mw_rel.specs.Job.{Job, job_with}
use Rattle.mw_top.specs.declared.commands.Work.{Work}
use Rattle.mw_top.specs.declared.fault.Fault.{Fault}
use Rattle.mw_top.specs.declared.fault.Fault.TheVariants.{Board, Text}

-- the job of four files, and the labels of its microprogram: the board of the first, what the second is assembled to
-- for it, the machine of the third, and the relation between them of the fourth
abbrev pub job_plan : (Job → List Label → Plan Fault Work) → Plan Fault Work
job_plan rest = do
  board ← next_by Board board_of
  made ← next_by Text (store_of board)
  machine ← next_by Text machine_of
  relation ← next_by Text (relation_of board made.labels machine)
  rest (job_with board made.store.words machine relation) made.labels
