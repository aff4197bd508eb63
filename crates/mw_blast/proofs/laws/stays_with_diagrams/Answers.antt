use Rattle.mw_blast.proofs.Kept.{stays_with_diagrams}
use Rattle.mw_blast.proofs.laws.stays_with_diagrams.Goals as goal

pub returns : goal.returns
returns c = stays_with_diagrams
