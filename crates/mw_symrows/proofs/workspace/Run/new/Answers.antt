use Rattle.mw_symmem.proofs.Later.{width_later}
use Rattle.mw_symrows.proofs.workspace.Run.new.Goals as goal

pub over-requires-clause-line : goal.over-requires-clause-line
over-requires-clause-line c = λ term is.
    width_later _ _ 1 term c.in_ok-elements.ensures.later (c.in_ok-line.ensures.wide term is)
