use Rattle.std.proofs.Common.{subst, sym}
use Rattle.mw_path.specs.Paths.{path_in}
use Rattle.mw_twinfork.specs.Ends.{EndsEach}
use Rattle.mw_twinfork.proofs.EndsMet.{ends_met}
use Rattle.mw_twinfork.proofs.cases.TwinsCaseTree.end.Goals as goal

pub returns : goal.returns
returns c = λ bits has.
    let s = c.args.self.now.revised in
    let traced = c.args.course.now in
    record {
      each = subst (EndsEach s bits) (sym c.end_of.ensures)
          (ends_met s bits (path_in traced.paths) traced.course has.gone.run.stands has.gone.met);
      within = has.within;
    }
