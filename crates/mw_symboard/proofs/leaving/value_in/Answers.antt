use Rattle.mw_symboard.proofs.Ends.{value_at}
use Rattle.mw_symboard.proofs.leaving.value_in.Goals as goal

pub returns : goal.returns
returns c = value_at c.args.decided.now c.args.place c.bit.result c.bit.ensures
