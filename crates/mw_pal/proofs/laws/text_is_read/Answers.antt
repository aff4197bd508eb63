use Rattle.mw_pal.proofs.Readings.{text_is_read}
use Rattle.mw_pal.proofs.laws.text_is_read.Goals as goal

pub returns : goal.returns
returns c = text_is_read
