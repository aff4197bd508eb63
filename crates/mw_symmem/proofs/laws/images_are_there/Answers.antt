use Rattle.mw_symmem.proofs.There.{images_are_there}
use Rattle.mw_symmem.proofs.laws.images_are_there.Goals as goal

pub returns : goal.returns
returns c = images_are_there
