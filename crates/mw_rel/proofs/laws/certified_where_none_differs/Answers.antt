use Rattle.mw_rel.proofs.Law.{certified_where_none_differs}
use Rattle.mw_rel.proofs.laws.certified_where_none_differs.Goals as goal

pub returns : goal.returns
returns c = certified_where_none_differs
