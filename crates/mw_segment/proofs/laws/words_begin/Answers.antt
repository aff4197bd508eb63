use Rattle.mw_segment.proofs.AlongWords.{segments_begin}
use Rattle.mw_segment.proofs.laws.words_begin.Goals as goal

pub returns : goal.returns
returns c = segments_begin
