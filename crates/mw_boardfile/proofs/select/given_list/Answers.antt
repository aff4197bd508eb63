use Rattle.std.proofs.Common.{refl}
use Rattle.mw_boardfile.specs.Board.{given_list}
use Rattle.mw_boardfile.proofs.select.given_list.Goals as goal

pub returns-in-Ok-clause-exact : goal.returns-in-Ok-clause-exact
unfolding given_list
returns-in-Ok-clause-exact g c = λ reader reads. rw c.in-Ok.ensures (c.chosen_list.ensures.exact reader reads)

pub returns-in-Err-clause-exact : goal.returns-in-Err-clause-exact
unfolding given_list
returns-in-Err-clause-exact g c = λ reader reads. rw (c.in-Err.ensures, c.whole.ensures) refl

pub returns-in-Ok-clause-kept : goal.returns-in-Ok-clause-kept
returns-in-Ok-clause-kept g c = λ rule keeps. c.chosen_list.ensures.kept rule keeps
