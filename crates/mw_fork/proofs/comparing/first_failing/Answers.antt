use Rattle.std.specs.Option.{is_none}
use Rattle.std.proofs.lemmas.Option.{IfSome_then}
use Rattle.mw_path.specs.Paths.{path_in}
use Rattle.mw_rel.specs.Views.{job_of}
use Rattle.mw_fork.specs.Failing.{ComparisonStops, ComparisonsAreWithin, IsFound, NoneDiffersOf}
use Rattle.mw_fork.proofs.LateCompared.{found_so, late_found, late_none, none_so, stops_so}
use Rattle.mw_fork.proofs.comparing.first_failing.Goals as goal

pub returns-in_ok-first_assignment-in-None-clause-none : goal.returns-in_ok-first_assignment-in-None-clause-none
returns-in_ok-first_assignment-in-None-clause-none g c = λ none bits gone.
    let traced = c.args.traced.now in
    let course = traced.course in
    late_none (job_of c.args.job.now) c.args.boundary gone.course.elements course.cycles (is_none course.step) bits
    (path_in traced.paths) course.run course.step c.args.job.now.is_job gone.course.met
    (c.in_ok-first_assignment-in-None.ensures.none none)

pub returns-in_ok-first_assignment-in-None-clause-found : goal.returns-in_ok-first_assignment-in-None-clause-found
returns-in_ok-first_assignment-in-None-clause-found g c =
    let traced = c.args.traced.now in
    let course = traced.course in
    IfSome_then c.in_ok-first_assignment-in-None.field-0 c.in_ok-first_assignment-in-None.ensures.first
    (λ numbers first bits gone.
    late_found (job_of c.args.job.now) c.args.boundary gone.course.elements course.cycles (is_none course.step) bits
    (path_in traced.paths) course.run course.step numbers c.args.job.now.is_job c.in-None.is gone.course.met first)

pub returns-in-Some-clause-none : goal.returns-in-Some-clause-none
returns-in-Some-clause-none g c =
    let job = job_of c.args.job.now in
    none_so job c.args.boundary c.args.traced.now c.in-Some.step
    (λ number elements bits. NoneDiffersOf job number bits) c.compare_sides.result c.in-Some.is
    c.compare_sides.ensures.none

pub returns-in-Some-clause-within : goal.returns-in-Some-clause-within
returns-in-Some-clause-within g c =
    let job = job_of c.args.job.now in
    none_so job c.args.boundary c.args.traced.now c.in-Some.step
    (λ number elements bits. ComparisonsAreWithin job number c.args.nodes bits) c.compare_sides.result
    c.in-Some.is c.compare_sides.ensures.within

pub returns-in-Some-clause-found : goal.returns-in-Some-clause-found
returns-in-Some-clause-found g c =
    let job = job_of c.args.job.now in
    found_so job c.args.boundary c.args.traced.now c.in-Some.step
    (λ numbers number elements bits. IsFound job number elements bits c.compare_sides.new.run.space numbers)
    c.compare_sides.result c.in-Some.is c.compare_sides.ensures.found

pub returns-in-Some-clause-over : goal.returns-in-Some-clause-over
returns-in-Some-clause-over g c =
    let job = job_of c.args.job.now in
    stops_so job c.args.boundary c.args.traced.now c.in-Some.step
    (λ stop number elements bits. ComparisonStops job number c.args.nodes bits stop) c.compare_sides.result
    c.in-Some.is c.compare_sides.ensures.over
