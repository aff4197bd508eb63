use Rattle.mw_revise.proofs.Apart.{read_is_apart}
use Rattle.mw_revise.proofs.reading.read_keep.Goals as goal

pub returns-clause-apart : goal.returns-clause-apart
returns-clause-apart c = read_is_apart _ _ c.keep_of.result c.keep_of.ensures.gives
