use Rattle.std.proofs.Common.{ap, ◌∙◌, sym}
use Rattle.std.proofs.lemmas.Result.{err_from_is_err_and}
use Rattle.mw_board.specs.Following.{place_of}
use Rattle.mw_board.proofs.Each.{each_fails, each_goes_on, each_done}
use Rattle.mw_board.proofs.check.each.Goals as goal

pub returns-in_err-placed_in : goal.returns-in_err-placed_in
returns-in_err-placed_in g c = λ test follows.
    let p = err_from_is_err_and c.from_residual.result c.from_residual.ensures.1 in
    let answers = ap (place_of c.args.list c.loop-n.n) (sym (follows _ _ c.rule.ensures))
    ∙ sym c.placed_in.ensures
    ∙ c.in_err-placed_in.was in
    rw (p.1, p.2) (each_fails (λ n entry. place_of c.args.list n (test entry)) c.in_err-placed_in.field-0.0
    c.args.entries.now c.loop-n.n c.index-entries-n.result _ c.loop-n-test.true c.index-entries-n.is answers
    (c.loop-n.invariant.1 test follows))

pub loop-n-preserved : goal.loop-n-preserved
loop-n-preserved g c = (
  c.loop-n.invariant.0,
  λ test follows.
      let answers = ap (place_of c.args.list c.loop-n.n) (sym (follows _ _ c.rule.ensures))
      ∙ sym c.placed_in.ensures
      ∙ c.in_ok-placed_in.was in
      each_goes_on (λ n entry. place_of c.args.list n (test entry)) c.args.entries.now c.loop-n.n
      c.index-entries-n.result _ c.loop-n-test.true c.index-entries-n.is answers (c.loop-n.invariant.1 test follows),
)

pub returns : goal.returns
returns g c = λ test follows.
    each_done (λ n entry. place_of c.args.list n (test entry)) c.args.entries.now c.loop-n.n _ c.loop-n-test.false
    (c.loop-n.invariant.1 test follows)
