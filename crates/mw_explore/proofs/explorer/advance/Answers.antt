use Rattle.std.proofs.lemmas.Result.{err_from_is_err_and}
use Rattle.std.proofs.Common.{List, subst}
use Rattle.mw_explore.specs.declared.way.Kept.{Kept}
use Rattle.mw_explore.specs.KeptBits.{IsWayFrom}
use Rattle.mw_explore.proofs.explorer.advance.Goals as goal

pub returns-in_err-follow-clause-over : goal.returns-in_err-follow-clause-over
returns-in_err-follow-clause-over g c =
    let p = err_from_is_err_and c.from_residual-in_err-follow.result c.from_residual-in_err-follow.ensures.1 in
    rw (p.1, p.2) (λ place same.
    let over = c.in_err-follow.ensures.over place same in (
      subst (λ (from : List Kept). IsWayFrom (g.T.CaseTree.is_case c.args.tree.now) from c.follow.new.trail.way)
          c.next_course.ensures.way over.0,
      over.1,
      over.2,
    ))
