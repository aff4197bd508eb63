use Rattle.std.proofs.Common.{◌+◌, ◌∙◌, arith, drop, refl, subst}
use Rattle.std.specs.Prelude.{Err, None, Ok, Some}
use Rattle.std.proofs.lemmas.Option.{slice_get_within}
use Rattle.std.proofs.lemmas.Result.{err_from_is_err_and}
use Rattle.mw_compare.proofs.ComparingOn.{compares_as, compares_shown, compares_then, comparing_then}
use Rattle.mw_compare.proofs.EventsCompared.{comparing_itself}
use Rattle.mw_compare.proofs.Options.{some_at}
use Rattle.mw_compare.specs.Comparing.{Compares}
use Rattle.mw_fork.proofs.LinesCompared.{all_at}
use Rattle.mw_path.proofs.Grown.{stays_itself, stays_then}
use Rattle.mw_path.specs.Paths.{path_in}
use Rattle.mw_revise.specs.Kept.{IsLine}
use Rattle.mw_revise.specs.TwinComparisonWords.{with_keep_line, with_keep_lines}
use Rattle.mw_term.specs.Assigned.{given_by}
use Rattle.mw_twincompare.proofs.LinesKept.{fails_before, hold_more, holds_on_before, lines_behind, lines_done}
use Rattle.mw_twincompare.proofs.LinesKept.{lines_next, terms_later}
use Rattle.mw_twincompare.specs.KeptOnTerms.{HoldsAt, terms_of_both}
use Rattle.mw_twincompare.proofs.lines.compare_lines.Goals as goal

pub loop-number-init : goal.loop-number-init
loop-number-init g c = record {
  terms = c.requires.terms;
  workspace = c.requires.workspace;
  paths = c.requires.paths;
  path = λ given. refl;
  stays = stays_itself c.args.paths.now;
  goes = comparing_itself c.args.space.now c.requires.workspace;
  memory = refl;
  probe = refl;
  came = λ new result says. says;
  holds = λ i line below at given on. absurd (omega (arith, below));
}

pub compare_line-requires-clause-line : goal.compare_line-requires-clause-line
compare_line-requires-clause-line g c =
    all_at (IsLine c.args.ends.now.board.now) c.args.lines.now c.loop-number.number c.line_at-line.result
    c.requires.lines c.line_at-line.ensures

pub returns-in_err-found-clause-compared : goal.returns-in_err-found-clause-compared
returns-in_err-found-clause-compared g c =
    let inv = c.loop-number.invariant in
    let ends = c.args.ends.now in
    let board = ends.board.now in
    let terms = terms_of_both board ends.old_board.now ends.new_board.now in
    let line = c.line_at-line.result in
    let p = err_from_is_err_and c.from_residual.result c.from_residual.ensures.1 in
    rw (p.1, p.2)
    (inv.came c.compare_line.new.space (Err c.in_err-found.field-0.0)
    (compares_shown c.args.nodes c.loop-number.space c.compare_line.new.space (path_in c.loop-number.paths)
    (with_keep_line board terms line) (with_keep_lines board terms (drop c.loop-number.number c.args.lines.now))
    (Err c.in_err-found.field-0.0) tt
    (λ so_far. lines_behind board terms c.args.lines.now c.loop-number.number line so_far c.line_at-line.ensures) c.in_err-found.ensures.compared))

pub returns-in-Some-clause-goes : goal.returns-in-Some-clause-goes
returns-in-Some-clause-goes g c =
    comparing_then c.args.space.now c.loop-number.space c.compare_line.new.space c.loop-number.invariant.goes
    c.in_ok-found.ensures.goes

pub returns-in-Some-clause-stays : goal.returns-in-Some-clause-stays
returns-in-Some-clause-stays g c =
    stays_then c.args.paths.now c.loop-number.paths c.compare_line.new.paths c.loop-number.invariant.stays
    c.in_ok-found.ensures.stays

pub returns-in-Some-clause-memory : goal.returns-in-Some-clause-memory
returns-in-Some-clause-memory g c = c.in_ok-found.ensures.memory ∙ c.loop-number.invariant.memory

pub returns-in-Some-clause-probe : goal.returns-in-Some-clause-probe
returns-in-Some-clause-probe g c = c.in_ok-found.ensures.probe ∙ c.loop-number.invariant.probe

pub returns-in-Some-clause-compared : goal.returns-in-Some-clause-compared
returns-in-Some-clause-compared g c =
    let inv = c.loop-number.invariant in
    let ends = c.args.ends.now in
    let board = ends.board.now in
    let terms = terms_of_both board ends.old_board.now ends.new_board.now in
    let line = c.line_at-line.result in
    let now = c.loop-number.space in
    let new = c.compare_line.new.space in
    let path = path_in c.loop-number.paths in
    inv.came new (Ok (Some c.in-Some.found))
    (compares_shown c.args.nodes now new path (with_keep_line board terms line)
    (with_keep_lines board terms (drop c.loop-number.number c.args.lines.now)) (Ok (Some c.in-Some.found)) tt
    (λ so_far. lines_behind board terms c.args.lines.now c.loop-number.number line so_far c.line_at-line.ensures)
    (subst (λ o. Compares c.args.nodes now new path (with_keep_line board terms line) (Ok o)) c.in-Some.is
    c.in_ok-found.ensures.compared))

pub returns-in-Some-clause-apart : goal.returns-in-Some-clause-apart
returns-in-Some-clause-apart g c =
    let ends = c.args.ends.now in
    let board = ends.board.now in
    let line = c.line_at-line.result in
    let at = c.line_at-line.ensures in (
      c.loop-number.number,
      line,
      at,
      fails_before board c.args.space.now c.loop-number.space _ ends.old_board.now ends.new_board.now c.args.lines.now
          c.loop-number.number line c.requires.terms c.loop-number.invariant.goes c.requires.lines at
          (some_at (λ numbers. ¬ HoldsAt board c.loop-number.space.terms (given_by numbers) ends.old_board.now
          ends.new_board.now line) c.in_ok-found.field-0 c.in-Some.found c.in-Some.is c.in_ok-found.ensures.apart),
    )

pub loop-number-preserved : goal.loop-number-preserved
loop-number-preserved g c =
    let inv = c.loop-number.invariant in
    let ends = c.args.ends.now in
    let board = ends.board.now in
    let terms = terms_of_both board ends.old_board.now ends.new_board.now in
    let line = c.line_at-line.result in
    let k = c.loop-number.number in
    let now = c.loop-number.space in
    let new = c.compare_line.new.space in
    let path = path_in c.loop-number.paths in
    let e = c.in_ok-found.ensures in
    let at = c.line_at-line.ensures in
    record {
      terms = terms_later board now.terms new.terms ends.old_board.now ends.new_board.now e.goes.goes.later inv.terms;
      workspace = e.goes.goes.workspace;
      paths = e.paths;
      path = λ given. e.path given ∙ inv.path given;
      stays = stays_then c.args.paths.now c.loop-number.paths c.compare_line.new.paths inv.stays e.stays;
      goes = comparing_then c.args.space.now now new inv.goes e.goes;
      memory = e.memory ∙ inv.memory;
      probe = e.probe ∙ inv.probe;
      came = λ last result says.
          inv.came last result
          (compares_then c.args.nodes now new last path (path_in c.compare_line.new.paths)
          (with_keep_line board terms line) (with_keep_lines board terms (drop (k + 1) c.args.lines.now))
          (with_keep_lines board terms (drop k c.args.lines.now)) result e.goes.goes.later.extends.map e.path
          (λ so_far same. lines_next board terms c.args.lines.now k line so_far c.line_at-line.ensures)
          (subst (λ o. Compares c.args.nodes now new path (with_keep_line board terms line) (Ok o)) c.in_default.is
          e.compared) says);
      holds = hold_more board c.args.space.now.terms (path_in c.args.paths.now) ends.old_board.now ends.new_board.now
          c.args.lines.now k line c.line_at-line.ensures inv.holds
          (holds_on_before board c.args.space.now now (path_in c.args.paths.now) path ends.old_board.now
          ends.new_board.now line c.requires.terms inv.goes inv.path
          (all_at (IsLine board) c.args.lines.now k line c.requires.lines at) (e.same c.in_default.is));
    }

pub returns-clause-compared : goal.returns-clause-compared
returns-clause-compared g c =
    let ends = c.args.ends.now in
    let board = ends.board.now in
    let terms = terms_of_both board ends.old_board.now ends.new_board.now in
    let now = c.loop-number.space in
    c.loop-number.invariant.came now (Ok None)
    (compares_as c.args.nodes now now (path_in c.loop-number.paths) (λ so_far. so_far)
    (with_keep_lines board terms (drop c.loop-number.number c.args.lines.now)) (Ok None)
    (λ so_far same. lines_done board terms c.args.lines.now c.loop-number.number so_far
    (omega (arith, c.loop-number-test.false, c.loop-number.auto.number-end))) (λ so_far have. have))

pub returns-clause-same : goal.returns-clause-same
returns-clause-same g c = λ none i line at.
    c.loop-number.invariant.holds i line
    (omega (
      arith,
      slice_get_within c.args.lines.now i line at,
      c.loop-number-test.false,
      c.loop-number.auto.number-end,
    )) at
