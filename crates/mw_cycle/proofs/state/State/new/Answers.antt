use Rattle.mw_cycle.proofs.Fitting.{cleared_fits}
use Rattle.mw_cycle.proofs.state.State.new.Goals as goal

pub returns-clause-fits : goal.returns-clause-fits
returns-clause-fits c = rw c.in_ok-zeroed.ensures (cleared_fits c.args.board.now)
