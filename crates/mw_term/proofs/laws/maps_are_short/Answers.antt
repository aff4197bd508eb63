use Rattle.mw_term.proofs.Tables.{maps_are_short}
use Rattle.mw_term.proofs.laws.maps_are_short.Goals as goal

pub returns : goal.returns
returns c = maps_are_short
