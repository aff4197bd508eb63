use Rattle.mw_cycle.proofs.Fitting.{begun_fits}
use Rattle.mw_cycle.proofs.state.State.begun.Goals as goal

pub returns-clause-fits : goal.returns-clause-fits
returns-clause-fits c = λ at size words.
    rw c.cleared.ensures (begun_fits c.args.board.now c.args.at c.args.memory.items at size words)
