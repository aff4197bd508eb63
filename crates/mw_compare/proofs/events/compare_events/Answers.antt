use Rattle.std.proofs.Common.{[], ◌∷◌, ◌+◌, ◌∙◌, arith, drop, refl, subst}
use Rattle.std.specs.Prelude.{Err, None, Ok, Some}
use Rattle.std.proofs.lemmas.Result.{err_from_is_err_and}
use Rattle.mw_rel.specs.ComparisonWords.{with_events}
use Rattle.mw_compare.specs.Comparing.{Compares}
use Rattle.mw_path.specs.Paths.{path_in}
use Rattle.mw_compare.proofs.ComparingOn.{compares_as, compares_shown, compares_then, comparing_then}
use Rattle.mw_compare.proofs.EventsCompared.{AreAt, alike_count, alike_rest, comparing_itself, events_behind, events_done}
use Rattle.mw_compare.proofs.EventsCompared.{events_next, events_wide, one_more, out_here, out_inside, put_out}
use Rattle.mw_path.proofs.Grown.{stays_itself, stays_then}
use Rattle.mw_compare.proofs.Options.{some_at}
use Rattle.mw_compare.proofs.events.compare_events.Goals as goal

pub loop-number-init : goal.loop-number-init
loop-number-init g c = record {
  count = alike_count c.args.board.now c.args.machine.now c.requires.alike;
  alike = c.requires.alike;
  workspace = c.requires.workspace;
  paths = c.requires.paths;
  path = λ given. refl;
  stays = stays_itself c.args.paths.now;
  goes = comparing_itself c.args.space.now c.requires.workspace;
  memory = refl;
  probe = refl;
  came = λ last result says. says;
  same = λ number a b below. absurd (omega (arith, below));
}

pub compare_pair-requires-clause-wide : goal.compare_pair-requires-clause-wide
compare_pair-requires-clause-wide g c = λ a b is_a is_b.
    let inv = c.loop-number.invariant in
    events_wide c.args.space.now c.loop-number.space c.args.board.now c.args.machine.now c.loop-number.number a b
    inv.goes c.requires.wide
    (put_out c.args.board.now c.args.machine.now c.loop-number.number c.index-board-number.result
    c.index-machine-number.result a b
    (assumption (c.loop-number-test.true, inv.count, c.index-board-number.is, c.index-machine-number.is)) is_a is_b)

pub returns-in_err-found-clause-compared : goal.returns-in_err-found-clause-compared
returns-in_err-found-clause-compared g c =
    let inv = c.loop-number.invariant in
    let board = c.args.board.now in
    let machine = c.args.machine.now in
    let k = c.loop-number.number in
    let x = c.index-board-number.result in
    let y = c.index-machine-number.result in
    let stop = c.in_err-found.field-0.0 in
    let p = err_from_is_err_and c.from_residual.result c.from_residual.ensures.1 in
    rw (p.1, p.2) (inv.came c.compare_pair.new.space (Err stop)
    (compares_shown c.args.nodes c.loop-number.space c.compare_pair.new.space (path_in c.loop-number.paths)
    (with_events k (x ∷ []) (y ∷ [])) (with_events k (drop k board) (drop k machine)) (Err stop) tt
    (λ so_far. events_behind board machine k x y so_far
    (assumption (c.loop-number-test.true, inv.count, c.index-board-number.is, c.index-machine-number.is)) inv.alike)
    (c.in_err-found.ensures.compared k)))

pub returns-in-Some-clause-goes : goal.returns-in-Some-clause-goes
returns-in-Some-clause-goes g c =
    comparing_then c.args.space.now c.loop-number.space c.compare_pair.new.space c.loop-number.invariant.goes
    c.in_ok-found.ensures.goes

pub returns-in-Some-clause-memory : goal.returns-in-Some-clause-memory
returns-in-Some-clause-memory g c = c.in_ok-found.ensures.memory ∙ c.loop-number.invariant.memory

pub returns-in-Some-clause-stays : goal.returns-in-Some-clause-stays
returns-in-Some-clause-stays g c =
    stays_then c.args.paths.now c.loop-number.paths c.compare_pair.new.paths c.loop-number.invariant.stays
    c.in_ok-found.ensures.stays

pub returns-in-Some-clause-probe : goal.returns-in-Some-clause-probe
returns-in-Some-clause-probe g c = c.in_ok-found.ensures.probe ∙ c.loop-number.invariant.probe

pub returns-in-Some-clause-compared : goal.returns-in-Some-clause-compared
returns-in-Some-clause-compared g c =
    let inv = c.loop-number.invariant in
    let board = c.args.board.now in
    let machine = c.args.machine.now in
    let k = c.loop-number.number in
    let x = c.index-board-number.result in
    let y = c.index-machine-number.result in
    let now = c.loop-number.space in
    let new = c.compare_pair.new.space in
    let path = path_in c.loop-number.paths in
    inv.came new (Ok (Some c.in-Some.found))
    (compares_shown c.args.nodes now new path (with_events k (x ∷ []) (y ∷ []))
    (with_events k (drop k board) (drop k machine)) (Ok (Some c.in-Some.found)) tt
    (λ so_far. events_behind board machine k x y so_far
    (assumption (c.loop-number-test.true, inv.count, c.index-board-number.is, c.index-machine-number.is)) inv.alike)
    (subst (λ o. Compares c.args.nodes now new path (with_events k (x ∷ []) (y ∷ [])) (Ok o)) c.in-Some.is
    (c.in_ok-found.ensures.compared k)))

pub returns-in-Some-clause-apart : goal.returns-in-Some-clause-apart
returns-in-Some-clause-apart g c =
    let two = some_at _ _ _ c.in-Some.is c.in_ok-found.ensures.apart in (
      c.loop-number.number,
      two.0,
      two.1,
      put_out c.args.board.now c.args.machine.now c.loop-number.number c.index-board-number.result
          c.index-machine-number.result two.0 two.1
          (assumption (
            c.loop-number-test.true,
            c.loop-number.invariant.count,
            c.index-board-number.is,
            c.index-machine-number.is,
          )) two.2 two.3,
      two.4,
    )

pub loop-number-preserved : goal.loop-number-preserved
loop-number-preserved g c =
    let inv = c.loop-number.invariant in
    let board = c.args.board.now in
    let machine = c.args.machine.now in
    let k = c.loop-number.number in
    let now = c.loop-number.space in
    let new = c.compare_pair.new.space in
    let path = path_in c.loop-number.paths in
    let x = c.index-board-number.result in
    let y = c.index-machine-number.result in
    let e = c.in_ok-found.ensures in
    let at : AreAt board machine k x y =
    assumption (c.loop-number-test.true, inv.count, c.index-board-number.is, c.index-machine-number.is) in
    record {
      count = inv.count;
      alike = alike_rest board machine k x y at inv.alike;
      workspace = e.goes.goes.workspace;
      paths = e.paths;
      path = λ given. e.path given ∙ inv.path given;
      stays = stays_then c.args.paths.now c.loop-number.paths c.compare_pair.new.paths inv.stays e.stays;
      goes = comparing_then c.args.space.now now new inv.goes e.goes;
      memory = e.memory ∙ inv.memory;
      probe = e.probe ∙ inv.probe;
      came = λ last result says.
          inv.came last result
          (compares_then c.args.nodes now new last path (path_in c.compare_pair.new.paths)
          (with_events k (x ∷ []) (y ∷ [])) (with_events (k + 1) (drop (k + 1) board) (drop (k + 1) machine))
          (with_events k (drop k board) (drop k machine)) result e.goes.goes.later.extends.map e.path
          (λ so_far same. events_next board machine k x y so_far at inv.alike)
          (subst (λ o. Compares c.args.nodes now new path (with_events k (x ∷ []) (y ∷ [])) (Ok o)) c.in_default.is
          (e.compared k)) says);
      same = one_more c.args.space.now now new board machine k (path_in c.args.paths.now) inv.goes e.goes
          c.requires.wide inv.same (λ a b out given on.
          let here = out_here board machine k x y a b at out in
          e.same c.in_default.is a b here.0 here.1 given (inv.path given ∙ on));
    }

pub returns-clause-compared : goal.returns-clause-compared
returns-clause-compared g c =
    let inv = c.loop-number.invariant in
    let board = c.args.board.now in
    let machine = c.args.machine.now in
    let k = c.loop-number.number in
    inv.came c.loop-number.space (Ok None)
    (compares_as c.args.nodes c.loop-number.space c.loop-number.space (path_in c.loop-number.paths) (λ so_far. so_far)
    (with_events k (drop k board) (drop k machine)) (Ok None)
    (λ so_far same. events_done board machine k so_far
    (omega (arith, c.loop-number-test.false, c.loop-number.auto.number-end)) inv.count) (λ so_far have. have))

pub returns-clause-same : goal.returns-clause-same
returns-clause-same g c = λ none number a b out.
    c.loop-number.invariant.same number a b
    (omega (
      arith,
      out_inside c.args.board.now c.args.machine.now number a b out,
      c.loop-number-test.false,
      c.loop-number.auto.number-end,
    )) out
