use Rattle.mw_segment.proofs.Staying.{ends_stay, segments_begin_on_paths, segments_take_bits}
use Rattle.mw_segment.proofs.laws.paths_go_on.Goals as goal

pub returns-clause-begin : goal.returns-clause-begin
returns-clause-begin c = segments_begin_on_paths

pub returns-clause-bits : goal.returns-clause-bits
returns-clause-bits c = segments_take_bits

pub returns-clause-stay : goal.returns-clause-stay
returns-clause-stay c = ends_stay
