use Rattle.mw_twin.specs.Courses.{IsReady}
use Rattle.mw_twinrows.proofs.words.take_bits.Given as goal

abbrev pub invariant-loop-digit : goal.invariant-loop-digit
invariant-loop-digit l = IsReady l.revised l.course
