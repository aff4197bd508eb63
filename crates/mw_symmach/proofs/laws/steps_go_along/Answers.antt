use Rattle.mw_symmach.proofs.Along.{steps_begin_along, turns_go_along, bits_go_along}
use Rattle.mw_symmach.proofs.laws.steps_go_along.Goals as goal

pub returns : goal.returns
returns c = record { begins = steps_begin_along; turns = turns_go_along; bits = bits_go_along }
