use Rattle.mw_macro.proofs.Accepted.{accepted_right}
use Rattle.mw_macro.proofs.RightAccepted.{right_accepted}
use Rattle.mw_macro.proofs.laws.accepted_are_right.Goals as goal

pub returns : goal.returns
returns c = record { right = accepted_right; accepted = right_accepted }
