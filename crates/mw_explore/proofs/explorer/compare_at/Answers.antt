use Rattle.mw_explore.proofs.Advancing.{kept_at, on_ok_both, stands_still}
use Rattle.mw_explore.proofs.explorer.compare_at.Goals as goal

pub returns-clause-stays : goal.returns-clause-stays
returns-clause-stays g c =
    let tree = c.args.tree.now in
    on_ok_both c.compare.result (λ gone waits way waiting keeps.
    stands_still (g.T.CaseTree.is_case tree) (g.T.CaseTree.has_gone tree) (g.T.CaseTree.is_waiting tree) c.in-At.course
    c.compare.new.course way waiting gone waits
    (kept_at (g.T.CaseTree.is_case tree) (g.T.CaseTree.has_gone tree) (g.T.CaseTree.is_waiting tree) c.args.stage.now
    c.in-At.course way waiting c.in-At.is keeps)) c.compare.ensures.gone c.compare.ensures.waiting
