use Rattle.mw_macro.specs.Described.{description_of}
use Rattle.mw_macro.proofs.Words.{cleared_fits}
use Rattle.mw_macro.proofs.state.MacState.new.Goals as goal

pub returns-clause-fits : goal.returns-clause-fits
returns-clause-fits c = rw c.in_ok-cleared.ensures (cleared_fits (description_of c.args.machine.now))
