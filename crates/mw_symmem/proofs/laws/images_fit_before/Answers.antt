use Rattle.mw_symmem.proofs.Later.{images_fit_before}
use Rattle.mw_symmem.proofs.laws.images_fit_before.Goals as goal

pub returns : goal.returns
returns c = images_fit_before
