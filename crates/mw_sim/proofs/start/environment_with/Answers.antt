use Rattle.mw_cycle.proofs.Lists.{shortened_are_environments}
use Rattle.mw_sim.proofs.start.environment_with.Goals as goal

pub returns-clause-valid : goal.returns-clause-valid
returns-clause-valid c =
    rw (c.shorten.ensures, c.in_ok-env.ensures)
    (shortened_are_environments c.args.board.now c.args.given.now.env c.requires)
