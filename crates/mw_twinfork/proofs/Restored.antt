-- A course that was compared, and of which all but what was made is as before.
use Rattle.std.proofs.Common.{◌≡◌, List, subst, sym, ◌∙◌}
use Rattle.mw_decide.proofs.Remaining.{path_remains, paths_remain}
use Rattle.mw_decide.specs.Traces.{over_places}
use Rattle.mw_path.specs.Paths.{HaveGrown}
use Rattle.mw_term.specs.declared.decided.Decided.{Decided}
use Rattle.mw_term.specs.Functions.{Function}
use Rattle.mw_term.specs.Laws.{StandsInMore}
use Rattle.mw_twin.specs.Courses.{HasMetCase}
use Rattle.mw_twin.specs.RevisedBlocks.{RevisedBlock}
use Rattle.mw_twinfork.proofs.OthersWait.{waits_on}
use Rattle.mw_twinfork.specs.Traces.{HasGone, IsWaiting, StaysAs, Traced, Waiting}

-- the course as it was, with what was made
abbrev pub restored : (old compared : Traced) → Traced
restored old compared = record {
  course = old.course;
  paths = record {
    dds = compared.paths.dds;
    shared = compared.paths.shared;
    places = old.paths.places;
    path = old.paths.path;
  };
}

-- a course that was put back is that one
pub is_restored : (old compared new : Traced) → StaysAs old compared → new.course.space ≡ old.course.space
    → new.paths ≡ over_places compared.paths old.paths.places
    → new.course.old_elements ≡ compared.course.old_elements → new.course.new_elements ≡ compared.course.new_elements
    → new.course.old_board ≡ compared.course.old_board → new.course.new_board ≡ compared.course.new_board
    → new.course.late ≡ compared.course.late → restored old compared ≡ new
is_restored old compared new stays space paths old_elements new_elements old_board new_board late =
    let path : over_places compared.paths old.paths.places
    ≡ record {
      dds = compared.paths.dds;
      shared = compared.paths.shared;
      places = old.paths.places;
      path = old.paths.path;
    } = λ i. record {
      dds = compared.paths.dds;
      shared = compared.paths.shared;
      places = old.paths.places;
      path = stays.paths.stay.path i;
    } in
    let paths_are = paths ∙ path in
    let old_elements_are = old_elements ∙ stays.course.old_elements in
    let new_elements_are = new_elements ∙ stays.course.new_elements in
    let old_board_is = old_board ∙ stays.course.old_board in
    let new_board_is = new_board ∙ stays.course.new_board in
    let late_is = late ∙ stays.course.late in
    λ i. record {
      course = record {
        space = sym space i;
        old_elements = sym old_elements_are i;
        new_elements = sym new_elements_are i;
        old_board = sym old_board_is i;
        new_board = sym new_board_is i;
        late = sym late_is i;
      };
      paths = sym paths_are i;
    }

-- what was made has grown
grown_still : (old compared : Traced) → StaysAs old compared → HaveGrown old.paths (restored old compared).paths
grown_still old compared stays = record {
  nodes = stays.paths.stay.grown.nodes;
  extends = stays.paths.stay.grown.extends;
  terms = stays.paths.stay.grown.terms;
}

-- it has met the case still
pub gone_still : (s : RevisedBlock) (bits : List Decided) (old compared : Traced) → StandsInMore → StaysAs old compared
    → HasGone s bits old → HasGone s bits (restored old compared)
gone_still s bits old compared law stays gone =
    let paths = (restored old compared).paths in
    let grown = grown_still old compared stays in
    record {
      run = gone.run;
      terms = gone.terms;
      met = subst (λ (path : Function). HasMetCase s bits path old.course old.course.new_board)
          (path_remains old.paths paths old.paths.path grown gone.paths.there) gone.met;
      paths = paths_remain old.course.space old.paths paths old.paths.places old.paths.path law grown stays.paths.made
          gone.paths;
    }

-- and one that waits still does
pub waiting_still : (s : RevisedBlock) (old compared : Traced) (w : Waiting) (bits : List Decided) → StandsInMore
    → StaysAs old compared → IsWaiting s old.paths bits w → IsWaiting s (restored old compared).paths bits w
waiting_still s old compared w bits law stays waits =
    waits_on s old.paths (restored old compared).paths bits w law (grown_still old compared stays) stays.paths.made waits
