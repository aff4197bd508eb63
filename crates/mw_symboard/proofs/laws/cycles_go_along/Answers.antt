use Rattle.mw_symboard.proofs.CycleAlong as along
use Rattle.mw_symboard.proofs.laws.cycles_go_along.Goals as goal

pub returns : goal.returns
returns c = record { begin = along.cycles_begin; turns = along.cycles_go_along }
