use Rattle.std.proofs.lemmas.Result.{IfOk-weaker}
use Rattle.mw_path.specs.Paths.{path_in}
use Rattle.mw_rel.specs.Views.{job_of}
use Rattle.mw_fork.proofs.FirstStarts.{first_of_case, not_nowhere, of_case}
use Rattle.mw_fork.proofs.found.first_start.Goals as goal

pub unreachable-requires : goal.unreachable-requires
unreachable-requires c =
    let traced = c.args.traced.now in
    let course = traced.course in
    let bits = c.requires.gone.0 in
    let gone = c.requires.gone.1 in
    not_nowhere (job_of c.args.job.now) c.args.boundary gone.course.elements course.cycles _ bits
    (path_in traced.paths) course.run course.step
    c.args.job.now.is_job gone.course.met (c.in_ok-given.ensures.none c.in_default.is)

pub returns-clause-of_case : goal.returns-clause-of_case
returns-clause-of_case c =
    let traced = c.args.traced.now in
    let course = traced.course in
    IfOk-weaker c.begin_of.result _ _ (λ begin starts bits gone.
    of_case (job_of c.args.job.now) c.args.boundary gone.course.elements course.cycles _ bits
    (path_in traced.paths) course.run course.step
    c.in-Some.given begin gone.course.met (rw c.in-Some.is at c.in_ok-given.ensures.first) starts) c.begin_of.ensures.start

pub returns-clause-first : goal.returns-clause-first
returns-clause-first c =
    let traced = c.args.traced.now in
    let course = traced.course in
    IfOk-weaker c.begin_of.result _ _ (λ begin assigned bits gone.
    first_of_case (job_of c.args.job.now) c.args.boundary gone.course.elements course.cycles _ bits
    (path_in traced.paths) course.run course.step
    c.in-Some.given begin gone.course.met (rw c.in-Some.is at c.in_ok-given.ensures.first) assigned) c.begin_of.ensures.assigned
