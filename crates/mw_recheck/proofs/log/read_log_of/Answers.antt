use Rattle.mw_recheck.proofs.Counts.{count_is}
use Rattle.mw_recheck.proofs.log.read_log_of.Goals as goal

pub returns-in-Ok-clause-count : goal.returns-in-Ok-clause-count
returns-in-Ok-clause-count c = count_is c.args.boundaries c.args.text.now _ c.in-Ok.ensures.gives
