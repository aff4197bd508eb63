-- From how a call ended to what each status says.
use Rattle.std.proofs.Common.{◌≡◌, ℕ, List, [], ◌∷◌, ◌++◌, true, Some, None, refl, arith}
use Rattle.std.specs.Prelude.{◌≢◌, Contains}
use Rattle.mw_plan.specs.Plan.{done, refused}
use Rattle.mw_plan.specs.Shelf.{AreTold}
use Rattle.mw_plan.proofs.Once.{ends_once}
use Rattle.mw_plan.proofs.Steps.{next_is_among}
use Rattle.mw_top.specs.declared.status.Status.{Status}
use Rattle.mw_top.specs.declared.status.Status.TheVariants.{Done, Differs, Unknown, Usage, Refused, ReadFault}
use Rattle.mw_top.specs.declared.status.Status.TheVariants.{WriteFault, NoMemory}
use Rattle.mw_top.specs.Answer.{AreAccepted, AreRefused, IsWorked, IsRefusal, IsEnd, IsWorkEnd, is_worked}
use Rattle.mw_top.specs.Call.{Call, NothingFailed}
use Rattle.mw_top.specs.Commands.Table.{plan_of}
use Rattle.mw_top.specs.Laws.{IsWithoutFault}
use Rattle.mw_top.specs.Request.{RequestData, request_of, files_of, task_of}

-- contents that are told and refused are not answered
not_answered : (call : Call) (status : Status) (report : List ℕ) (request : RequestData) (contents : List (List ℕ))
    → request_of call.words ≡ Some request → AreTold call.shelf_before request.files contents
    → AreRefused request contents → IsWorked call status report → ⊥
not_answered call status report request contents requested told refuses worked =
    let same : worked.request ≡ request = cc (worked.requested, requested) in
    let one = ends_once (plan_of (task_of request)) call.shelf_before (files_of request worked.contents) contents
    (refused refuses.0) (done worked.work) told refuses.1 tt (rw same at worked.made) tt in
    cc one

-- contents that are told and accepted are not refused
not_refused : (call : Call) (request : RequestData) (contents : List (List ℕ)) (report : List ℕ)
    → request_of call.words ≡ Some request → AreTold call.shelf_before request.files contents
    → AreAccepted request contents → IsRefusal call report → ⊥
not_refused call request contents report requested told accepts refusal =
    let same : refusal.request ≡ request = cc (refusal.requested, requested) in
    let read = refusal.contents ++ refusal.refused.last ∷ [] in
    let one = ends_once (plan_of (task_of request)) call.shelf_before (files_of request read) contents
    (done accepts.0) (refused refusal.fault) told accepts.1 tt (rw same at refusal.refused.left) tt in
    cc one

-- the work was done
pub end_worked : (call : Call) (status : Status) → IsEnd call status → is_worked status ≡ true → IsWorkEnd call status
end_worked call Done end worked = end
end_worked call Differs end worked = end
end_worked call Unknown end worked = end
end_worked call Usage end worked = absurd cc
end_worked call Refused end worked = absurd cc
end_worked call ReadFault end worked = absurd cc
end_worked call WriteFault end worked = absurd cc
end_worked call NoMemory end worked = absurd cc

-- the words are no request
pub end_usage : (call : Call) (status : Status) → IsEnd call status → request_of call.words ≡ None
    → Contains (Usage ∷ WriteFault ∷ NoMemory ∷ []) status
end_usage call Usage end none = (0, omega arith, refl)
end_usage call WriteFault end none = (1, omega arith, refl)
end_usage call NoMemory end none = (2, omega arith, refl)
end_usage call Done end none = absurd (cc (none, end.1.requested))
end_usage call Differs end none = absurd (cc (none, end.1.requested))
end_usage call Unknown end none = absurd (cc (none, end.1.requested))
end_usage call Refused end none = absurd (cc (none, end.1.requested))
end_usage call ReadFault end none = absurd (cc (none, end.1.requested))

-- the words are a request, and its files are accepted
pub end_accepted : (call : Call) (status : Status) → IsEnd call status
    → (request : RequestData) (contents : List (List ℕ)) → request_of call.words ≡ Some request
    → AreTold call.shelf_before request.files contents → AreAccepted request contents
    → (status ≢ Usage) × (status ≢ Refused)
end_accepted call status end request contents requested told accepts = (
  λ is. let used = rw is at end in cc (used.0, requested),
  λ is. let refusal = rw is at end in not_refused call request contents refusal.0 requested told accepts refusal.1,
)

-- the files are refused
pub end_refused : (call : Call) (status : Status) → IsEnd call status
    → (request : RequestData) (contents : List (List ℕ)) → request_of call.words ≡ Some request
    → AreTold call.shelf_before request.files contents → AreRefused request contents
    → Contains (Refused ∷ ReadFault ∷ WriteFault ∷ NoMemory ∷ []) status
end_refused call Refused end request contents requested told refuses = (0, omega arith, refl)
end_refused call ReadFault end request contents requested told refuses = (1, omega arith, refl)
end_refused call WriteFault end request contents requested told refuses = (2, omega arith, refl)
end_refused call NoMemory end request contents requested told refuses = (3, omega arith, refl)
end_refused call Usage end request contents requested told refuses = absurd (cc (end.0, requested))
end_refused call Done end request contents requested told refuses =
    absurd (not_answered call Done end.0 request contents requested told refuses end.1)
end_refused call Differs end request contents requested told refuses =
    absurd (not_answered call Differs end.0 request contents requested told refuses end.1)
end_refused call Unknown end request contents requested told refuses =
    absurd (not_answered call Unknown end.0 request contents requested told refuses end.1)

-- nothing failed, so there is neither fault
pub without_fault : (call : Call) → NothingFailed call → IsWithoutFault call
without_fault call still = record {
  no_read_fault = λ end.
      let file = next_is_among _ _ end.1.file end.1.next.name_is in
      still.shelf end.1.request end.1.requested end.1.file file end.1.failed;
  no_write_fault = λ end. still.sink end.0;
  nothing_failed = still;
}

-- nothing failed
pub end_complete : (call : Call) (status : Status) → IsEnd call status → NothingFailed call
    → Contains (Done ∷ Differs ∷ Unknown ∷ Usage ∷ Refused ∷ NoMemory ∷ []) status
end_complete call Done end still = (0, omega arith, refl)
end_complete call Differs end still = (1, omega arith, refl)
end_complete call Unknown end still = (2, omega arith, refl)
end_complete call Usage end still = (3, omega arith, refl)
end_complete call Refused end still = (4, omega arith, refl)
end_complete call NoMemory end still = (5, omega arith, refl)
end_complete call ReadFault end still = absurd ((without_fault call still).no_read_fault end)
end_complete call WriteFault end still = absurd ((without_fault call still).no_write_fault end)
