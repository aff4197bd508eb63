-- What a call of the bench is answered with: the report of each status, and how the call ends.
use Rattle.std.specs.Prelude.{◌≡◌, ◌⊎◌, ℕ, List, Some, None, Bool, true, false}
use Rattle.mw_plan.specs.declared.fault.FileFault.{FileFault}
use Rattle.mw_plan.specs.Files.{IsLeft, IsNext, IsRefusedAt}
use Rattle.mw_plan.specs.Plan.{done, refused, after}
use Rattle.mw_top.specs.declared.commands.Work.{Work}
use Rattle.mw_top.specs.declared.fault.Fault.{Fault}
use Rattle.mw_top.specs.declared.status.Status.{Status}
use Rattle.mw_top.specs.declared.status.Status.TheVariants.{Done, Differs, Unknown, Usage, Refused, ReadFault}
use Rattle.mw_top.specs.declared.status.Status.TheVariants.{WriteFault, NoMemory}
use Rattle.mw_top.specs.Call.{Call, Took, TookSome, SinkFailed, ShelfFailed}
use Rattle.mw_top.specs.Commands.Table.{plan_of, IsAnswer}
use Rattle.mw_top.specs.Report.{usage_line, fault_line, refusal_line}
use Rattle.mw_top.specs.Request.{RequestData, request_of, files_of, task_of}

-- these contents of a request's files are accepted: its plan is done with them
abbrev pub AreAccepted : RequestData → List (List ℕ) → Type 0
AreAccepted request contents = (work : Work) × (after (plan_of (task_of request)) contents ≡ Some (done work))

-- the last of these contents of a request's files is refused
abbrev pub AreRefused : RequestData → List (List ℕ) → Type 0
AreRefused request contents =
    (fault : FileFault Fault) × (after (plan_of (task_of request)) contents ≡ Some (refused fault))

-- the statuses of work that was done
abbrev pub is_worked : Status → Bool
is_worked Done = true
is_worked Differs = true
is_worked Unknown = true
is_worked other = false

-- There is a request, its files were read, and the report answers what its plan makes of them.
pub record IsWorked (call : Call) (status : Status) (report : List ℕ) : Type 0 where
  pub request : RequestData
  pub requested : request_of call.words ≡ Some request
  pub contents : List (List ℕ)
  pub work : Work
  pub made : IsLeft (plan_of (task_of request)) call.shelf_before (files_of request contents) (done work)
  pub answer : IsAnswer request work status report

-- There is a request, its files were read up to one, and the report names that and the fault for which it is refused.
pub record IsRefusal (call : Call) (report : List ℕ) : Type 0 where
  pub request : RequestData
  pub requested : request_of call.words ≡ Some request
  pub contents : List (List ℕ)
  pub file : List ℕ
  pub fault : FileFault Fault
  pub refused : IsRefusedAt (plan_of (task_of request)) call.shelf_before (files_of request contents) file fault
  pub line : report ≡ refusal_line file fault

-- There is a request, its files were read and accepted up to one that its plan asks for, the shelf failed there, and
-- the report names that one.
pub record IsReadFault (call : Call) (report : List ℕ) : Type 0 where
  pub request : RequestData
  pub requested : request_of call.words ≡ Some request
  pub contents : List (List ℕ)
  pub file : List ℕ
  pub next : IsNext (plan_of (task_of request)) call.shelf_before (files_of request contents) file
  pub failed : ShelfFailed call file
  pub line : report ≡ fault_line file

-- The reports that a status permits, whether they are then written whole or not; want of memory and a write fault have
-- none of their own.
abbrev pub IsReport : Call → Status → List ℕ → Type 0
IsReport call Done report = IsWorked call Done report
IsReport call Differs report = IsWorked call Differs report
IsReport call Unknown report = IsWorked call Unknown report
IsReport call Usage report = (request_of call.words ≡ None) × (report ≡ usage_line)
IsReport call Refused report = IsRefusal call report
IsReport call ReadFault report = IsReadFault call report
IsReport call WriteFault report = ⊥
IsReport call NoMemory report = ⊥

-- Of a report that the words permit a front part was taken, or nothing.
pub record TookPart (call : Call) : Type 0 where
  pub status : Status
  pub report : List ℕ
  pub permitted : IsReport call status report
  pub taken : TookSome call report

-- the words are no request, and the usage line was taken
abbrev pub IsUsageEnd : Call → Type 0
IsUsageEnd call = (request_of call.words ≡ None) × Took call usage_line

-- the work was done, and its report was taken
abbrev pub IsWorkEnd : Call → Status → Type 0
IsWorkEnd call status = (report : List ℕ) × IsWorked call status report × Took call report

-- a file is refused, and the line that says so was taken
abbrev pub IsRefusalEnd : Call → Type 0
IsRefusalEnd call = (report : List ℕ) × IsRefusal call report × Took call report

-- the shelf failed at a file, and the line that says so was taken
abbrev pub IsReadFaultEnd : Call → Type 0
IsReadFaultEnd call = (report : List ℕ) × IsReadFault call report × Took call report

-- the sink failed, and a front part of a report was taken
abbrev pub IsWriteFaultEnd : Call → Type 0
IsWriteFaultEnd call = SinkFailed call × TookPart call

-- memory ran out: nothing was taken, or a front part of a report
abbrev pub IsMemoryEnd : Call → Type 0
IsMemoryEnd call = (call.sink_now.taken ≡ call.sink_before.taken) ⊎ TookPart call

-- what each status says of a call
abbrev pub IsEnd : Call → Status → Type 0
IsEnd call Usage = IsUsageEnd call
IsEnd call Refused = IsRefusalEnd call
IsEnd call ReadFault = IsReadFaultEnd call
IsEnd call WriteFault = IsWriteFaultEnd call
IsEnd call NoMemory = IsMemoryEnd call
IsEnd call worked = IsWorkEnd call worked
