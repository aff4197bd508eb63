-- What a course that has met all bits says of the case: it is one, and each of its twin starts ends so.
use Rattle.std.proofs.Common.{◌≡◌, ℕ, List, ◌∙◌, sym, subst, arith, refl, ap}
use Rattle.std.specs.Prelude.{Bool, true, false, length, Option, Some, None}
use Rattle.std.proofs.lemmas.List.{take_all}
use Rattle.mw_revise.specs.declared.programs.Side.TheVariants.{New, Old}
use Rattle.mw_revise.specs.Revision.{Revision}
use Rattle.mw_revise.specs.TwinBudgets.{IsTwinCase}
use Rattle.mw_revise.specs.TwinCase.{end_on, twin_case}
use Rattle.mw_revise.specs.TwinStart.{TwinStart, twins_without_waits}
use Rattle.mw_revise.proofs.WithoutWaits.{ends_alike}
use Rattle.mw_symboard.specs.Seen.{AreFirst}
use Rattle.mw_symboard.specs.Turns.{Symbolic}
use Rattle.mw_segment.specs.Segments.{HasCome, HasEnded}
use Rattle.mw_term.specs.Assigned.{Given}
use Rattle.mw_term.specs.declared.decided.Decided.{Decided}
use Rattle.mw_term.specs.Functions.{Function}
use Rattle.mw_twin.specs.Courses.{HasEndedIn, HasMetCase, came_of, end_of, ground_of}
use Rattle.mw_twin.specs.declared.course.Course.{Course}
use Rattle.mw_twin.specs.Grounds.{HaveTwinStarts, StandsForTwins}
use Rattle.mw_twin.specs.OnTwins.{Behind, HasMetNew}
use Rattle.mw_twin.specs.Origins.{Ground, origin_on}
use Rattle.mw_twin.specs.Programs.{program_on}
use Rattle.mw_twin.specs.RevisedBlocks.{IsRevisedBlock, RevisedBlock}
use Rattle.mw_twin.specs.TwinPaths.{HasTwinCase, IsOnWay}
use Rattle.mw_twin.proofs.OneSide.{ended_in_segment}
use Rattle.mw_twin.proofs.TwinCases.{both_true}
use Rattle.mw_twin.proofs.TwinStartsThere.{twin_starts_are_there}
use Rattle.mw_twinfork.specs.declared.twins.TwinEnd.{TwinEnd}
use Rattle.mw_twinfork.specs.declared.twins.TwinEnd.TheVariants.{LateNew, LateOld, Reached}
use Rattle.mw_twinfork.specs.Ends.{EndsAs, EndsEach, end_in}
use Rattle.mw_twinfork.proofs.TwinPrefixes.{assignment_of, first_at}

-- the twin starts of what a course works on
pub starts_on : (s : RevisedBlock) (g : Ground) (bits : List Decided) (path : Function) → IsRevisedBlock s
    → IsOnWay s.revision s.block g bits path → HaveTwinStarts s.revision s.block g
starts_on s g bits path is on =
    twin_starts_are_there s.revision s.block g is.revision_is is.block_of is.block_is on.stands

-- ---- where it is

-- the revised block of a course that has ended
revised_in : (s : RevisedBlock) (course : Course) (board : Option Symbolic) → HasEndedIn s course board
    → IsRevisedBlock s
revised_in s course None has = has.0.revised
revised_in s course (Some o) has = has.0.revised

-- the path that it has come along
on_way_in : (s : RevisedBlock) (bits : List Decided) (path : Function) (course : Course) (board : Option Symbolic)
    → HasMetCase s bits path course board → IsOnWay s.revision s.block (ground_of course) bits path
on_way_in s bits path course None met = met.on
on_way_in s bits path course (Some o) met = met.2.on

-- its bits are all of the cases
case_in : (s : RevisedBlock) (bits : List Decided) (path : Function) (course : Course) (board : Option Symbolic)
    → HasMetCase s bits path course board → HasTwinCase s.revision s.block (ground_of course) path bits
case_in s bits path course None met = met.case
case_in s bits path course (Some o) met = met.2.case

-- ---- the case

-- what it has met is a case
pub case_met : (s : RevisedBlock) (bits : List Decided) (path : Function) (course : Course)
    → HasEndedIn s course course.new_board → HasMetCase s bits path course course.new_board
    → IsTwinCase s.revision s.block bits
case_met s bits path course ended met =
    let on = on_way_in s bits path course course.new_board met in
    let g = ground_of course in
    let have = starts_on s g bits path (revised_in s course course.new_board ended) on in
    let at = first_at s.revision s.block g bits have on.feasible in
    record {
      twins = at.twins;
      starts = at.is.starts;
      bits_are = case_in s bits path course course.new_board met at.given at.twins at.is
          (on.cases.only at.given at.twins at.is at.first);
    }

-- ---- its ends

-- the new segment has ended so, along its own bits
abbrev EndsOn : RevisedBlock → Course → Symbolic → (own : List Decided) → (along : Function) → (end : Option ℕ) → Type 0
EndsOn s course o own along end = HasEnded (program_on New s.revision) s.block.bound course.space
    (origin_on New s.block (ground_of course)) o own along end

-- on its path the old segment has ended at a boundary
old_ends : (s : RevisedBlock) (bits : List Decided) (path : Function) (course : Course) (o : Symbolic) (end : Option ℕ)
    (b : Behind) → HasMetNew s.revision s.block course.space course.old_elements.items course.new_elements.items b o bits
    path end
    → (given : Given) (twins : TwinStart) → StandsForTwins s.revision s.block (ground_of course) given twins
    → b.path given ≡ true → end_on Old s.revision twins ≡ Some b.board.place.cycle
old_ends s bits path course o end b met given twins stands holds =
    (ended_in_segment Old s.revision s.block course.space course.old_elements.items course.new_elements.items b.board b.bits
    b.path (Some b.board.place.cycle) met.behind.ended refl given twins stands holds).0

-- on its path each twin start without waits ends so
ends_in : (s : RevisedBlock) (bits : List Decided) (path : Function) (course : Course) (board : Option Symbolic)
    (late : Bool) → course.late ≡ late → HasEndedIn s course board → HasMetCase s bits path course board
    → (given : Given) (twins : TwinStart) → StandsForTwins s.revision s.block (ground_of course) given twins
    → path given ≡ true → EndsAs s.revision twins (end_in late course.old_board board)
ends_in s bits path course None late same ended met given twins stands holds =
    (ended_in_segment Old s.revision s.block course.space course.old_elements.items course.new_elements.items
    course.old_board bits path None met.ended (sym ended.1.2) given twins stands holds).0
ends_in s bits path course (Some o) true same ended met given twins stands holds =
    let b = met.0 in
    let m = met.2 in
    let each = both_true (b.path given) (m.along given) (sym (m.both given) ∙ holds) in
    let came = subst (λ (l : Bool). HasCome (program_on New s.revision) s.block.bound course.space o (came_of l)) same
    ended.1 in
    let ends = subst (λ (l : Bool). EndsOn s course o m.own m.along (end_of l o)) same m.ended in (
      old_ends s bits path course o (end_of course.late o) b m given twins stands each.0
          ∙ ap (λ (x : Symbolic). Some x.place.cycle) met.1,
      (ended_in_segment New s.revision s.block course.space course.old_elements.items course.new_elements.items o m.own
          m.along None ends (sym came.2) given twins stands each.1).0,
    )
ends_in s bits path course (Some o) false same ended met given twins stands holds =
    let b = met.0 in
    let m = met.2 in
    let each = both_true (b.path given) (m.along given) (sym (m.both given) ∙ holds) in
    let ends = subst (λ (l : Bool). EndsOn s course o m.own m.along (end_of l o)) same m.ended in (
      old_ends s bits path course o (end_of course.late o) b m given twins stands each.0
          ∙ ap (λ (x : Symbolic). Some x.place.cycle) met.1,
      (ended_in_segment New s.revision s.block course.space course.old_elements.items course.new_elements.items o m.own
          m.along (Some o.place.cycle) ends refl given twins stands each.1).0,
    )

-- a twin start ends as the one without its waits
ends_with : (revision : Revision) (twins : TwinStart) (end : TwinEnd)
    → EndsAs revision (twins_without_waits revision twins) end → EndsAs revision twins end
ends_with revision twins LateOld is = ends_alike Old revision twins ∙ is
ends_with revision twins (LateNew before) is =
    (ends_alike Old revision twins ∙ is.0, ends_alike New revision twins ∙ is.1)
ends_with revision twins (Reached before after) is =
    (ends_alike Old revision twins ∙ is.0, ends_alike New revision twins ∙ is.1)

-- each twin start with the case ends so
pub ends_met : (s : RevisedBlock) (bits : List Decided) (path : Function) (course : Course)
    → HasEndedIn s course course.new_board → HasMetCase s bits path course course.new_board
    → EndsEach s bits (end_in course.late course.old_board course.new_board)
ends_met s bits path course ended met twins starts same =
    let on = on_way_in s bits path course course.new_board met in
    let g = ground_of course in
    let have = starts_on s g bits path (revised_in s course course.new_board ended) on in
    let thin = twins_without_waits s.revision twins in
    let at = assignment_of s.revision s.block g twins have starts in
    let begins : AreFirst bits (twin_case s.revision thin) =
    subst (AreFirst bits) (sym (at.bits ∙ same)) (take_all (length bits) bits (omega arith)) in
    ends_with s.revision twins (end_in course.late course.old_board course.new_board)
    (ends_in s bits path course course.new_board course.late refl ended met at.given thin at.is
    (on.cases.only at.given thin at.is begins))
