use Rattle.std.proofs.Common.{rules}
use Rattle.mw_term.specs.Assigned.{given_by}
use Rattle.mw_twin.proofs.GivenEnvironments.{line_fits, lists_beside}
use Rattle.mw_twin.proofs.starts.environment_beside.Goals as goal

pub take-requires-clause-width : goal.take-requires-clause-width
take-requires-clause-width c = line_fits c.args.before.now c.value-line.result _ c.value-line.ensures

pub returns-clause-lists : goal.returns-clause-lists
returns-clause-lists c =
    lists_beside c.args.space.now.terms c.args.space.now.words (given_by c.args.given.now) c.args.before.now
    _ c.take.new.env c.value-line.result c.requires.before (search rules) c.in_ok-take.ensures.took
    (search rules)
