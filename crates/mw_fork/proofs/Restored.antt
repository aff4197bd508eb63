-- A course that was compared, and of which all but what was made is as before.
use Rattle.std.proofs.Common.{◌≡◌, ℕ, List, subst, sym, ◌∙◌}
use Rattle.mw_term.specs.declared.decided.Decided.{Decided}
use Rattle.mw_term.specs.Functions.{Function}
use Rattle.mw_term.specs.Laws.{StandsInMore}
use Rattle.mw_dd.specs.Nodes.{function_of}
use Rattle.mw_path.specs.Paths.{HaveGrown, path_in}
use Rattle.mw_rel.specs.Job.{Job}
use Rattle.mw_course.specs.Courses as courses
use Rattle.mw_fork.specs.Traces.{Traced, Waiting}
use Rattle.mw_fork.specs.Traces.{HasGone, IsWaiting, StaysAs, over_places}
use Rattle.mw_decide.proofs.Remaining.{path_remains, paths_remain}
use Rattle.mw_fork.proofs.OthersWait.{waits_on}

-- the course with what it worked on before
abbrev pub restored : (old compared : Traced) → Traced
restored old compared = record {
  course = record {
    run = record {
      space = old.course.run.space;
      board = old.course.run.board;
      registers = old.course.run.registers;
    };
    cycles = old.course.cycles;
    step = old.course.step;
  };
  paths = record {
    dds = compared.paths.dds;
    shared = compared.paths.shared;
    places = old.paths.places;
    path = old.paths.path;
  };
}

-- a course that was put back is that one
pub is_restored : (old compared new : Traced) → StaysAs old compared
    → new.course.run.space ≡ old.course.run.space
    → new.paths ≡ over_places compared.paths old.paths.places → new.course.run.board ≡ compared.course.run.board
    → new.course.run.registers ≡ compared.course.run.registers → new.course.cycles ≡ compared.course.cycles
    → new.course.step ≡ compared.course.step → restored old compared ≡ new
is_restored old compared new stays space paths board registers cycles step =
    let path : over_places compared.paths old.paths.places
    ≡ record {
      dds = compared.paths.dds;
      shared = compared.paths.shared;
      places = old.paths.places;
      path = old.paths.path;
    } = λ i. record {
      dds = compared.paths.dds;
      shared = compared.paths.shared;
      places = old.paths.places;
      path = stays.paths.path i;
    } in
    let paths_are = paths ∙ path in
    let board_is = board ∙ stays.board in
    let registers_are = registers ∙ stays.registers in
    let cycles_are = cycles ∙ stays.cycles in
    let step_is = step ∙ stays.step in
    λ i. record {
      course = record {
        run = record { space = sym space i; board = sym board_is i; registers = sym registers_are i };
        cycles = sym cycles_are i;
        step = sym step_is i;
      };
      paths = sym paths_are i;
    }

-- what was made has grown
grown_still : (old compared : Traced) → StaysAs old compared → HaveGrown old.paths (restored old compared).paths
grown_still old compared stays = record {
  nodes = stays.paths.grown.nodes;
  extends = stays.paths.grown.extends;
  terms = stays.paths.grown.terms;
}

-- it has met the case still
pub gone_still : (job : Job) (number : ℕ) (bits : List Decided) (old compared : Traced) → StandsInMore
    → StaysAs old compared → HasGone job number bits old → HasGone job number bits (restored old compared)
gone_still job number bits old compared law stays gone =
    let paths = (restored old compared).paths in
    let grown = grown_still old compared stays in
    record {
      course =
          subst (λ (path : Function). courses.HasGone job number bits path (restored old compared).course)
          (path_remains old.paths paths old.paths.path grown gone.paths.there) gone.course;
      paths = paths_remain old.course.run.space old.paths paths old.paths.places old.paths.path law grown stays.made
          gone.paths;
    }

-- and one that waits still does
pub waiting_still : (job : Job) (number : ℕ) (old compared : Traced) (w : Waiting) (bits : List Decided)
    → StandsInMore → StaysAs old compared → IsWaiting job number old.paths bits w
    → IsWaiting job number (restored old compared).paths bits w
waiting_still job number old compared w bits law stays waits =
    waits_on job number old.paths (restored old compared).paths bits w law (grown_still old compared stays) stays.made
    waits
