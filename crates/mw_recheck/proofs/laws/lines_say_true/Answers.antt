use Rattle.mw_recheck.proofs.Truths.{lines_say_true}
use Rattle.mw_recheck.proofs.laws.lines_say_true.Goals as goal

pub returns : goal.returns
returns c = lines_say_true
