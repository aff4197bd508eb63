use Rattle.std.proofs.Common.{arith, drop, refl, subst, ◌+◌, ◌∙◌}
use Rattle.std.specs.Prelude.{Err, None, Ok, Some}
use Rattle.std.proofs.lemmas.Result.{err_from_is_err_and}
use Rattle.mw_rel.specs.ComparisonWords.{with_line, with_lines}
use Rattle.mw_rel.specs.Rules.{IsLineOf}
use Rattle.mw_rel.specs.Seen.{line_of, lines_of}
use Rattle.mw_rel.specs.Views.{job_of}
use Rattle.mw_rel.proofs.Seen.{each_seen}
use Rattle.mw_term.specs.Assigned.{given_by}
use Rattle.mw_fork.specs.Comparing.{Compares, FailsAt}
use Rattle.mw_path.specs.Paths.{path_in}
use Rattle.mw_course.proofs.Boundaries.{space_later}
use Rattle.mw_compare.proofs.ComparingOn.{compares_as, compares_shown, compares_then, comparing_then}
use Rattle.mw_fork.proofs.ComparingOn.{sides_compared, wide_compared}
use Rattle.mw_compare.proofs.EventsCompared.{comparing_itself}
use Rattle.mw_compare.proofs.Options.{some_at}
use Rattle.mw_path.proofs.Grown.{stays_itself, stays_then}
use Rattle.mw_fork.proofs.LinesCompared.{hold_more, inside_kept, lines_behind, lines_done, lines_next}
use Rattle.mw_course.proofs.Related.{reads_rest, seen_line}
use Rattle.mw_fork.proofs.comparing.compare_lines.Goals as goal

pub loop-line-init : goal.loop-line-init
loop-line-init g c = record {
  space = c.requires.space;
  wide = c.requires.wide;
  paths = c.requires.paths;
  path = λ given. refl;
  stays = stays_itself c.args.paths.now;
  total = refl;
  goes = comparing_itself c.args.space.now c.requires.space.workspace;
  probe = refl;
  came = λ sides on new result says. says;
  holds = λ i line below at given on. absurd (omega (arith, below));
}

pub compare_line-requires-clause-line_of : goal.compare_line-requires-clause-line_of
compare_line-requires-clause-line_of g c =
    each_seen (IsLineOf c.args.job.now.relation.shape) line_of c.args.lines.now
    c.loop-line.line-index c.line-item.result
    c.requires.lines_of c.loop-line-test.true c.line-item.is

pub returns-in_err-found-clause-compared : goal.returns-in_err-found-clause-compared
returns-in_err-found-clause-compared g c =
    let inv = c.loop-line.invariant in
    let s = (job_of c.args.job.now).relation.shape in
    let line = c.line-item.result in
    let p = err_from_is_err_and c.from_residual.result c.from_residual.ensures.1 in
    rw (p.1, p.2) (λ sides on.
    inv.came sides on c.compare_line.new.space (Err c.in_err-found.field-0.0)
    (compares_shown c.args.nodes c.loop-line.space c.compare_line.new.space (path_in c.loop-line.paths)
    (with_line s sides (line_of line)) (with_lines s sides (lines_of (drop c.loop-line.line-index c.args.lines.now)))
    (Err c.in_err-found.field-0.0) tt
    (λ so_far. lines_behind s c.args.lines.now c.loop-line.line-index line sides so_far c.loop-line-test.true
    c.line-item.is)
    (c.in_err-found.ensures.compared sides
    (sides_compared c.args.elements.now c.args.space.now c.loop-line.space sides inv.goes on))))

pub returns-in-Some-clause-goes : goal.returns-in-Some-clause-goes
returns-in-Some-clause-goes g c =
    comparing_then c.args.space.now c.loop-line.space c.compare_line.new.space c.loop-line.invariant.goes
    c.in_ok-found.ensures.goes

pub returns-in-Some-clause-stays : goal.returns-in-Some-clause-stays
returns-in-Some-clause-stays g c =
    stays_then c.args.paths.now c.loop-line.paths c.compare_line.new.paths c.loop-line.invariant.stays
    c.in_ok-found.ensures.stays

pub returns-in-Some-clause-probe : goal.returns-in-Some-clause-probe
returns-in-Some-clause-probe g c = c.in_ok-found.ensures.probe ∙ c.loop-line.invariant.probe

pub returns-in-Some-clause-compared : goal.returns-in-Some-clause-compared
returns-in-Some-clause-compared g c = λ sides on.
    let inv = c.loop-line.invariant in
    let s = (job_of c.args.job.now).relation.shape in
    let line = c.line-item.result in
    let now = c.loop-line.space in
    let new = c.compare_line.new.space in
    let path = path_in c.loop-line.paths in
    inv.came sides on new (Ok (Some c.in-Some.found))
    (compares_shown c.args.nodes now new path (with_line s sides (line_of line))
    (with_lines s sides (lines_of (drop c.loop-line.line-index c.args.lines.now))) (Ok (Some c.in-Some.found)) tt
    (λ so_far. lines_behind s c.args.lines.now c.loop-line.line-index line sides so_far c.loop-line-test.true
    c.line-item.is)
    (subst (λ o. Compares c.args.nodes now new path (with_line s sides (line_of line)) (Ok o)) c.in-Some.is
    (c.in_ok-found.ensures.compared sides
    (sides_compared c.args.elements.now c.args.space.now now sides inv.goes on))))

pub returns-in-Some-clause-apart : goal.returns-in-Some-clause-apart
returns-in-Some-clause-apart g c =
    let s = (job_of c.args.job.now).relation.shape in
    let line = c.line-item.result in (
      c.loop-line.line-index,
      line_of line,
      seen_line c.args.lines.now c.loop-line.line-index line c.loop-line-test.true c.line-item.is,
      some_at (λ numbers. FailsAt s c.compare_line.new.space c.args.elements.now (given_by numbers) (line_of line))
          c.in_ok-found.field-0 c.in-Some.found c.in-Some.is c.in_ok-found.ensures.apart,
    )

pub loop-line-preserved : goal.loop-line-preserved
loop-line-preserved g c =
    let inv = c.loop-line.invariant in
    let job = job_of c.args.job.now in
    let s = job.relation.shape in
    let line = c.line-item.result in
    let k = c.loop-line.line-index in
    let now = c.loop-line.space in
    let new = c.compare_line.new.space in
    let e = c.in_ok-found.ensures in
    let step = e.goes.goes in
    record {
      space = space_later job now.terms new.terms now.words new.words now.memory new.memory step.later step.reads
          step.workspace inv.space;
      wide = wide_compared s.widths c.args.elements.now now new e.goes inv.wide;
      paths = e.paths;
      path = λ given. e.path given ∙ inv.path given;
      stays = stays_then c.args.paths.now c.loop-line.paths c.compare_line.new.paths inv.stays e.stays;
      total = omega (arith, e.more, reads_rest c.args.lines.now k line c.loop-line-test.true c.line-item.is, inv.total);
      goes = comparing_then c.args.space.now now new inv.goes e.goes;
      probe = e.probe ∙ inv.probe;
      came = λ sides on last result says.
          inv.came sides on last result
          (compares_then c.args.nodes now new last (path_in c.loop-line.paths) (path_in c.compare_line.new.paths)
          (with_line s sides (line_of line)) (with_lines s sides (lines_of (drop (k + 1) c.args.lines.now)))
          (with_lines s sides (lines_of (drop k c.args.lines.now))) result e.goes.goes.later.extends.map e.path
          (λ so_far same. lines_next s c.args.lines.now k line sides so_far c.loop-line-test.true c.line-item.is)
          (subst
          (λ o. Compares c.args.nodes now new (path_in c.loop-line.paths) (with_line s sides (line_of line)) (Ok o))
          c.in_default.is
          (e.compared sides (sides_compared c.args.elements.now c.args.space.now now sides inv.goes on))) says);
      holds = hold_more s c.args.lines.now k line now new (path_in c.args.paths.now) (path_in c.loop-line.paths)
          c.args.elements.now c.loop-line-test.true c.line-item.is c.requires.lines_of
          inv.space.workspace inv.wide e.goes
          inv.path inv.holds (e.same c.in_default.is);
    }

pub returns-clause-compared : goal.returns-clause-compared
returns-clause-compared g c = λ sides on.
    let s = (job_of c.args.job.now).relation.shape in
    let now = c.loop-line.space in
    c.loop-line.invariant.came sides on now (Ok None)
    (compares_as c.args.nodes now now (path_in c.loop-line.paths) (λ so_far. so_far)
    (with_lines s sides (lines_of (drop c.loop-line.line-index c.args.lines.now))) (Ok None)
    (λ so_far same. lines_done s c.args.lines.now c.loop-line.line-index sides so_far
    (omega (arith, c.loop-line-test.false, c.loop-line.auto.line-index-end))) (λ so_far have. have))

pub returns-clause-same : goal.returns-clause-same
returns-clause-same g c = λ none i line at.
    c.loop-line.invariant.holds i line
    (omega (arith, inside_kept c.args.lines.now i line at, c.loop-line-test.false, c.loop-line.auto.line-index-end)) at
