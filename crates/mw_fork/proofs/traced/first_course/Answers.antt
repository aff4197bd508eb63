use Rattle.std.proofs.Common.{ℕ, List, ap, refl, subst, sym, ◌∙◌}
use Rattle.std.specs.Prelude.{None, Option, Some}
use Rattle.mw_board.specs.declared.parts.BoardParts.{BoardParts}
use Rattle.mw_term.specs.declared.decided.Decided.{Decided}
use Rattle.mw_term.specs.Functions.{Function, always}
use Rattle.mw_term.specs.Table.{IsMap}
use Rattle.mw_symmach.specs.Turns.{Stepping}
use Rattle.mw_path.specs.Paths.{path_in}
use Rattle.mw_rel.specs.Job.{Job}
use Rattle.mw_rel.specs.Views.{job_of}
use Rattle.mw_course.specs.declared.run.Run.{Run}
use Rattle.mw_course.specs.Courses.{IsOnCourse}
use Rattle.mw_course.proofs.Courses.{going_map}
use Rattle.mw_fork.proofs.traced.first_course.Goals as goal

-- what a course works on has a map
map_in : (job : Job) (number : ℕ) (elements : List ℕ) (bits : List Decided) (path : Function) (run : Run)
    (step : Option Stepping) → IsOnCourse job number elements bits path run step → IsMap run.space.terms.map
map_in job number elements bits path run None on = on.on.stands.space.workspace.table.map
map_in job number elements bits path run (Some step) on = on.1.on.stands.space.workspace.table.map

pub new-requires-2 : goal.new-requires-2
new-requires-2 c =
    let job = job_of c.args.job.now in
    let course = c.in_ok-new.field-0 in
    let going = c.in_ok-new.ensures always (λ given. refl) in
    subst IsMap
    (going_map job c.args.boundary _ always course going
    ∙ ap (λ (b : BoardParts). b.map_entries) (sym c.parts.ensures.exact) ∙ sym c.as_slice.ensures)
    (map_in job c.args.boundary going.elements _ always course.run course.step going.on)

pub returns : goal.returns
returns c =
    let job = job_of c.args.job.now in
    let course = c.in_ok-new.field-0 in
    let paths = c.in_ok-new-2.field-0 in
    let e = c.in_ok-new-2.ensures in
    let going = c.in_ok-new.ensures (path_in paths) e.always in
    record {
      course = going;
      paths = e.paths course.run.space.terms
          (going_map job c.args.boundary _ _ course going
          ∙ ap (λ (b : BoardParts). b.map_entries) (sym c.parts.ensures.exact) ∙ sym c.as_slice.ensures);
    }
