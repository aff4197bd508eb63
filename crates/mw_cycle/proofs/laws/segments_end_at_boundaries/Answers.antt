use Rattle.mw_cycle.proofs.Times.{next_boundary, no_boundary}
use Rattle.mw_cycle.proofs.laws.segments_end_at_boundaries.Goals as goal

pub returns : goal.returns
returns c = λ addresses at limit. (next_boundary addresses at limit, no_boundary addresses at limit)
