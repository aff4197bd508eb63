use Rattle.mw_ready.proofs.Steps.{certified_where_none_differs}
use Rattle.mw_ready.proofs.starts.certified_where_none_differs.Goals as goal

pub returns : goal.returns
returns c = certified_where_none_differs
