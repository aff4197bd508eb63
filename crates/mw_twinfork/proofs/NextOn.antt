-- What a course that waits for a bit says of the next one.
use Rattle.std.proofs.Common.{ℕ, List}
use Rattle.std.specs.Prelude.{Option, Some, None}
use Rattle.mw_symboard.specs.Turns.{Symbolic}
use Rattle.mw_symmem.specs.Memory.{IsOfWidth}
use Rattle.mw_term.specs.declared.decided.Decided.{Decided}
use Rattle.mw_term.specs.declared.decided.DecidedKind.{DecidedKind}
use Rattle.mw_term.specs.Functions.{Function}
use Rattle.mw_twin.specs.Courses.{IsOnCourse, WaitsIn, WaitsOnCourse, ground_of}
use Rattle.mw_twin.specs.declared.course.Course.{Course}
use Rattle.mw_twin.specs.OnTwins.{AsksFor}
use Rattle.mw_twin.specs.RevisedBlocks.{IsRevisedBlock, RevisedBlock}
use Rattle.mw_twin.specs.TwinPaths.{IsNextOfTwins, IsOnWay}

-- the path of a course that is on its way
pub on_way_of : (s : RevisedBlock) (bits : List Decided) (path : Function) (course : Course) (board : Option Symbolic)
    → IsOnCourse s bits path course board → IsOnWay s.revision s.block (ground_of course) bits path
on_way_of s bits path course None on = on.on
on_way_of s bits path course (Some o) on = on.2.on

-- it is the next bit of the cases on the path, and the word list asks for it by this term of one bit
pub record IsNextOn (s : RevisedBlock) (bits : List Decided) (path : Function) (course : Course) (kind : DecidedKind)
    (term : ℕ) : Type 0 where
  pub revised : IsRevisedBlock s
  pub on : IsOnWay s.revision s.block (ground_of course) bits path
  pub next : IsNextOfTwins s.revision s.block (ground_of course) bits path kind term
  pub asks : AsksFor s.revision s.block bits course.space term
  pub wide : IsOfWidth course.space.terms 1 term

pub next_on : (s : RevisedBlock) (bits : List Decided) (path : Function) (course : Course) (board : Option Symbolic)
    (kind : DecidedKind) (term : ℕ) → WaitsIn s course board kind term
    → WaitsOnCourse s bits path course board kind term → IsNextOn s bits path course kind term
next_on s bits path course None kind term waits asks = record {
  revised = waits.0.revised;
  on = asks.on.on;
  next = asks.next;
  asks = asks.here;
  wide = waits.1.0.wide;
}
next_on s bits path course (Some o) kind term waits asks = record {
  revised = waits.0.revised;
  on = asks.2.on.on;
  next = asks.2.next;
  asks = asks.2.here;
  wide = waits.1.0.wide;
}
