use Rattle.mw_symmem.proofs.Stays.{stays_with_words}
use Rattle.mw_symmem.proofs.laws.stays_with_words.Goals as goal

pub returns : goal.returns
returns c = stays_with_words
