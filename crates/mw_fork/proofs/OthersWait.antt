-- The courses that wait, as bits are decided and as what was made grows.
use Rattle.std.proofs.Common.{◌≡◌, ℕ, List, [], ◌∷◌, ◌++◌, sym, subst}
use Rattle.std.specs.Prelude.{true}
use Rattle.mw_term.specs.Functions.{Function}
use Rattle.mw_term.specs.Laws.{StandsInMore}
use Rattle.mw_term.specs.declared.decided.Decided.{Decided}
use Rattle.mw_term.specs.declared.decided.DecidedKind.{DecidedKind}
use Rattle.mw_cycle.specs.Decided.{decided}
use Rattle.mw_dd.specs.Nodes.{IsDd, function_of}
use Rattle.mw_decide.proofs.Remaining.{path_remains, paths_remain, paths_wait}
use Rattle.mw_path.specs.declared.paths.Paths.{Paths}
use Rattle.mw_path.specs.Paths.{AreMade, HaveGrown, path_in}
use Rattle.mw_symmach.specs.Along.{BitsGoAlong}
use Rattle.mw_rel.specs.Job.{Job}
use Rattle.mw_course.specs.Courses as courses
use Rattle.mw_course.specs.Courses.{Waits, WaitsOnCourse}
use Rattle.mw_course.specs.OnWay.{HasDecided, ground_in}
use Rattle.mw_course.proofs.BitsGiven.{other_goes}
use Rattle.mw_fork.specs.Traces.{HavePaths, IsOther, IsWaiting, Traced, Waiting}

-- ---- what was made grows

-- one that waits goes on to wait
pub waits_on : (job : Job) (number : ℕ) (old new : Paths) (bits : List Decided) (w : Waiting) → StandsInMore
    → HaveGrown old new → AreMade new → IsWaiting job number old bits w → IsWaiting job number new bits w
waits_on job number old new bits w law grown made waits = record {
  course = subst (λ (path : Function). courses.IsGoing job number bits path w.course)
      (path_remains old new w.path grown waits.paths.there) waits.course;
  paths = paths_remain w.course.run.space old new w.places w.path law grown made waits.paths;
}

-- ---- a bit more

-- it waits behind the bits and one more, which is 1
pub other_waits : (job : Job) (number : ℕ) (elements : List ℕ) (bits : List Decided) (traced : Traced)
    (paths : Paths) (w : Waiting) (path : ℕ) (kind : DecidedKind) (term : ℕ) → BitsGoAlong
    → traced.course.cycles ≡ traced.course.run.board.place.cycle
    → Waits job number traced.course.run traced.course.step kind term
    → WaitsOnCourse job number elements bits (path_in traced.paths) traced.course.run traced.course.step kind term
    → HavePaths traced.course.run.space paths → IsDd paths.dds path
    → HasDecided job number (ground_in traced.course.run.space elements) bits (path_in traced.paths)
    (function_of paths.dds path) kind term true
    → IsOther (record traced { paths = paths }) path w
    → IsWaiting job number paths (bits ++ decided kind true ∷ []) w
other_waits job number elements bits traced paths w path kind term law same waits turned have there has other =
    record {
      course = subst (λ (p : ℕ). courses.IsGoing job number (bits ++ decided kind true ∷ []) (function_of paths.dds p)
          w.course) (sym other.path_is)
          (other_goes job number elements bits (path_in traced.paths)
          (function_of paths.dds path) traced.course w.course
          kind term law same waits turned other.course has);
      paths = paths_wait traced.course.run.space w.course.run.space paths path w have there other.course.space
          other.places other.path_is;
    }
