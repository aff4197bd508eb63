-- The laws: what `--parts` changes, what a difference reads as, and where no call ends with a fault of the outside.
use Rattle.std.specs.Prelude.{◌≡◌, ℕ, List, Bool, true, Ok, String}
use Rattle.std.specs.Global.{Global}
use Rattle.mw_board.specs.Check.{check_of}
use Rattle.mw_outside.specs.declared.shelf.Shelf as shelf
use Rattle.mw_outside.specs.declared.sink.Sink as sink
use Rattle.mw_rel.specs.declared.difference.Difference.{Difference}
use Rattle.mw_rel.specs.Job.{Job, IsJob}
use Rattle.mw_replay.specs.CounterPrinted.{MayFollow}
use Rattle.mw_top.specs.declared.status.Status.{Status}
use Rattle.mw_top.specs.Answer.{IsWorked, IsReadFaultEnd, IsWriteFaultEnd}
use Rattle.mw_top.specs.Call.{Call, NothingFailed, call_of}
use Rattle.mw_top.specs.Commands.Table.{task_row}
use Rattle.mw_top.specs.Differences.{IsDifferenceOf}
use Rattle.mw_top.specs.Report.{difference_text}
use Rattle.mw_top.specs.Request.{task_of}

-- two calls of a command whose answer is determined, whose requests differ in nothing but `--parts`, and for which the
-- same was read, are answered alike
abbrev pub PartsChangeNothing : Type 0
PartsChangeNothing = (call other : Call) (status otherwise : Status) (report text : List ℕ) (parts : Bool)
    → (worked : IsWorked call status report) → (again : IsWorked other otherwise text)
    → (task_row (task_of worked.request)).is_determined ≡ true
    → again.request ≡ record worked.request { parts = parts }
    → again.contents ≡ worked.contents
    → (otherwise ≡ status) × (text ≡ report)

-- what a difference of a job reads as may stand behind the word of a line `difference ..`
abbrev pub DifferencesMayFollow : Type 0
DifferencesMayFollow = (job : Job) (difference : Difference) → IsJob job → check_of job.board ≡ Ok tt
    → IsDifferenceOf job difference → MayFollow (difference_text job difference)

-- the call ends neither with a read fault nor with a write fault, which both follow from that nothing failed in it
pub record IsWithoutFault (call : Call) : Type 0 where
  pub no_read_fault : ¬ IsReadFaultEnd call
  pub no_write_fault : ¬ IsWriteFaultEnd call
  pub nothing_failed : NothingFailed call

-- over this shelf and this sink each call is without a fault, whatever its words, and whatever they show before and
-- after it
abbrev pub NeverFail : {S K : Type 0} → shelf.Ghosts S → sink.Ghosts K → Type 0
NeverFail {S} {K} files out = (words : List (String Global)) (before now : S) (out_before out_now : K)
    → IsWithoutFault (call_of files out words before now out_before out_now)
