use Rattle.std.proofs.Common.{◌≡◌, rules, subst}
use Rattle.std.specs.Option.{is_none}
use Rattle.mw_path.specs.Paths.{path_in}
use Rattle.mw_rel.specs.Views.{job_of}
use Rattle.mw_course.specs.EndsEach.{EndsEach}
use Rattle.mw_course.proofs.Tracing.{ends_met}
use Rattle.mw_fork.proofs.cases.StartsCaseTree.end.Goals as goal

pub returns : goal.returns
returns c = λ bits has.
    let s = c.args.self.now in
    let job = job_of s.job.now in
    let traced = c.args.course.now in
    let course = traced.course in
    let gone = has.gone.course in
    let late : is_none course.step ≡ c.is_none.result = search rules in
    record {
      each = subst (EndsEach job s.boundary bits course.cycles) late
          (ends_met job s.boundary gone.elements course.cycles _ bits (path_in traced.paths) course.run course.step
          s.job.now.is_job gone.met);
      within = has.within;
    }
