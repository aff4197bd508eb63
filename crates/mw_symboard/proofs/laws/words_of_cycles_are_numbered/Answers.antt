use Rattle.mw_symboard.proofs.CycleAlong.{cycles_are_numbered}
use Rattle.mw_symboard.proofs.laws.words_of_cycles_are_numbered.Goals as goal

pub returns : goal.returns
returns c = cycles_are_numbered
