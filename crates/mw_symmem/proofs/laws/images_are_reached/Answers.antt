use Rattle.mw_symmem.proofs.Reached.{images_are_reached}
use Rattle.mw_symmem.proofs.laws.images_are_reached.Goals as goal

pub returns : goal.returns
returns c = images_are_reached
