use Rattle.std.proofs.Common.{[]}
use Rattle.mw_path.specs.Paths.{path_in}
use Rattle.mw_twinfork.proofs.NextOn.{on_way_of}
use Rattle.mw_twinfork.proofs.traced.first_course.Goals as goal

pub returns : goal.returns
returns c =
    let course = c.in_ok-new.field-0 in
    let paths = c.in_ok-whole_path.field-0 in
    let e = c.in_ok-whole_path.ensures in
    let on = c.in_ok-new.ensures.first (path_in paths) e.always in
    record {
      ready = c.in_ok-new.ensures.ready;
      terms = c.in_ok-new.ensures.terms;
      on = on;
      paths = e.paths course.space.terms
          (on_way_of c.args.revised.now [] (path_in paths) course course.new_board on).stands.space.map;
    }
