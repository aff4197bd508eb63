use Rattle.mw_pal.proofs.Memories.{ored_low}
use Rattle.mw_pal.proofs.joins.joined_code.Goals as goal

pub returns-else-are_clear-clause-low : goal.returns-else-are_clear-clause-low
returns-else-are_clear-clause-low c = rw c.ored.ensures (ored_low c.args.words.now)
