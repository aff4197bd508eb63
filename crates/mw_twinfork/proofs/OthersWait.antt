-- The courses that wait, as bits are decided and as what was made grows.
use Rattle.std.proofs.Common.{ℕ, List, [], ◌∷◌, ◌++◌, length, ap, sym, subst, ◌∙◌}
use Rattle.std.specs.Prelude.{Bool, true}
use Rattle.mw_cycle.specs.Decided.{decided}
use Rattle.mw_dd.specs.Nodes.{IsDd, function_of}
use Rattle.mw_decide.proofs.Remaining.{path_remains, paths_remain, paths_wait}
use Rattle.mw_decide.specs.SpacePaths.{HavePaths}
use Rattle.mw_path.specs.declared.paths.Paths.{Paths}
use Rattle.mw_path.specs.Paths.{AreMade, HaveGrown, path_in}
use Rattle.mw_term.specs.declared.decided.Decided.{Decided}
use Rattle.mw_term.specs.declared.decided.DecidedKind.{DecidedKind}
use Rattle.mw_term.specs.Functions.{Function}
use Rattle.mw_term.specs.Laws.{StandsInMore}
use Rattle.mw_twin.specs.Courses.{BitsGoOnCourse, BitsMakeReady, HasDecidedOn, HasElementTerms, IsGivenTo, IsOnCourse}
use Rattle.mw_twin.specs.Courses.{KeepsElements}
use Rattle.mw_twin.specs.declared.course.Course.{Course}
use Rattle.mw_twin.specs.RevisedBlocks.{RevisedBlock}
use Rattle.mw_twincompare.specs.Failing.{StaysAs}
use Rattle.mw_twinfork.specs.Traces.{IsAsking, IsOther, IsWaiting, Traced, Waiting}

-- the elements have terms still
pub terms_kept : (s : RevisedBlock) (old new : Course) → KeepsElements old new → HasElementTerms s old
    → HasElementTerms s new
terms_kept s old new keeps has = record {
  old_count = ap length keeps.old_elements ∙ has.old_count;
  new_count = ap length keeps.new_elements ∙ has.new_count;
}

-- so they have where it was compared
pub terms_compared : (s : RevisedBlock) (old new : Course) → StaysAs old new → HasElementTerms s old
    → HasElementTerms s new
terms_compared s old new stays =
    terms_kept s old new (record {
      old_elements = ap (λ v. v.items) stays.old_elements;
      new_elements = ap (λ v. v.items) stays.new_elements;
    })

-- and where a bit is given
pub terms_given : (s : RevisedBlock) (value : Bool) (old new : Course) → IsGivenTo value old new → HasElementTerms s old
    → HasElementTerms s new
terms_given s value old new given =
    terms_kept s old new
    (record { old_elements = given.old_elements; new_elements = given.new_elements })

-- what was made grows, and one that waits goes on to wait
pub waits_on : (s : RevisedBlock) (old new : Paths) (bits : List Decided) (w : Waiting) → StandsInMore
    → HaveGrown old new → AreMade new → IsWaiting s old bits w → IsWaiting s new bits w
waits_on s old new bits w law grown made waits = record {
  ready = waits.ready;
  terms = waits.terms;
  on = subst (λ (path : Function). IsOnCourse s bits path w.course w.course.new_board)
      (path_remains old new w.path grown waits.paths.there) waits.on;
  paths = paths_remain w.course.space old new w.places w.path law grown made waits.paths;
}

-- a bit more: it waits behind the bits and one more, which is 1
pub other_waits : (s : RevisedBlock) (bits : List Decided) (traced : Traced) (paths : Paths) (w : Waiting) (path : ℕ)
    (kind : DecidedKind) (term : ℕ) → BitsMakeReady → BitsGoOnCourse → IsAsking s bits kind term traced
    → HavePaths traced.course.space paths → IsDd paths.dds path
    → HasDecidedOn s bits (path_in traced.paths) (function_of paths.dds path) traced.course kind term true
    → IsOther (record traced { paths = paths }) path w → IsWaiting s paths (bits ++ decided kind true ∷ []) w
other_waits s bits traced paths w path kind term ready goes asking have there has other = record {
  ready = ready s traced.course w.course kind term true asking.waits other.course;
  terms = terms_given s true traced.course w.course other.course asking.terms;
  on = subst
      (λ (p : ℕ). IsOnCourse s (bits ++ decided kind true ∷ []) (function_of paths.dds p) w.course w.course.new_board)
      (sym other.path_is)
      (goes s bits (path_in traced.paths) (function_of paths.dds path) traced.course w.course kind term true asking.waits
      asking.on other.course has);
  paths = paths_wait traced.course.space w.course.space paths path w have there other.course.space other.places
      other.path_is;
}
