-- A course that is followed to its end.
use Rattle.std.proofs.Common.{◌≡◌, ℕ, List, subst, sym}
use Rattle.std.specs.Option.{is_none}
use Rattle.mw_term.specs.declared.decided.Decided.{Decided}
use Rattle.mw_term.specs.declared.decided.DecidedKind.{DecidedKind}
use Rattle.mw_symmem.specs.declared.turn.Turn.{Turn}
use Rattle.mw_symmem.specs.declared.turn.Turn.TheVariants.{Ask, Finished}
use Rattle.mw_rel.specs.Job.{Job}
use Rattle.mw_course.specs.declared.course.Course.{Course}
use Rattle.mw_course.specs.Courses.{HasGone, IsGoing, IsOnCourse, IsTurned, IsTurnedOnCourse, Waits, WaitsOnCourse}
use Rattle.mw_course.specs.OnWay.{HasMetCase}
use Rattle.mw_term.specs.Functions.{Function}

-- it waits for a bit after a turn
pub asked_on : (job : Job) (number : ℕ) (bits : List Decided) (path : Function) (old new : Course) (turn : Turn)
    (kind : DecidedKind) (term : ℕ) → turn ≡ Ask kind term → (going : IsGoing job number bits path old)
    → IsTurned job number new.run new.step turn
    → ((elements : List ℕ) (bits : List Decided) (path : Function)
    → IsOnCourse job number elements bits path old.run old.step
    → IsTurnedOnCourse job number elements bits path new.run new.step turn)
    → Waits job number new.run new.step kind term
    × WaitsOnCourse job number (going.elements) bits path new.run new.step kind term
asked_on job number bits path old new turn kind term is going turned goes = (
  subst (IsTurned job number new.run new.step) is turned,
  subst (IsTurnedOnCourse job number going.elements bits path new.run new.step) is
      (goes going.elements bits path going.on),
)

-- it has ended after a turn
pub gone : (job : Job) (number : ℕ) (bits : List Decided) (path : Function) (old new : Course) (turn : Turn)
    → turn ≡ Finished
    → IsGoing job number bits path old → new.cycles ≡ new.run.board.place.cycle
    → IsTurned job number new.run new.step turn
    → ((elements : List ℕ) (bits : List Decided) (path : Function)
    → IsOnCourse job number elements bits path old.run old.step
    → IsTurnedOnCourse job number elements bits path new.run new.step turn)
    → HasGone job number bits path new
gone job number bits path old new turn is going cycles turned goes = record {
  elements = going.elements;
  cycles = cycles;
  run = subst (IsTurned job number new.run new.step) is turned;
  met = subst (λ (n : ℕ). HasMetCase job number going.elements n (is_none new.step) bits path new.run new.step)
      (sym cycles)
      (subst (IsTurnedOnCourse job number going.elements bits path new.run new.step) is
      (goes going.elements bits path going.on));
}
