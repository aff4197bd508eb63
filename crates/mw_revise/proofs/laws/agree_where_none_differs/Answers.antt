use Rattle.mw_revise.proofs.Agreeing.{agree_where_none_differs}
use Rattle.mw_revise.proofs.laws.agree_where_none_differs.Goals as goal

pub returns : goal.returns
returns c = agree_where_none_differs
