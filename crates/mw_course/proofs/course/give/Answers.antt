use Rattle.std.proofs.Common.{refl, subst, sym}
use Rattle.std.specs.Prelude.{Option, Some}
use Rattle.mw_symmach.specs.Turns.{Stepping}
use Rattle.mw_course.specs.Courses.{IsGiven}
use Rattle.mw_course.proofs.course.give.Goals as goal

pub returns-in-Some : goal.returns-in-Some
returns-in-Some c =
    subst (λ (step : Option Stepping). IsGiven c.args.value c.args.board.now c.args.board.now step
    (Some c.decide.new.self)) (sym c.in-Some.is) (
      c.decide.new.self,
      refl,
      refl,
      record { new_is = c.decide.ensures.new; left = c.decide.ensures.left; decided = c.decide.ensures.decided },
    )
