use Rattle.mw_macro.specs.Described.{description_of}
use Rattle.mw_symrows.proofs.Underway.{decided_under}
use Rattle.mw_symrows.proofs.stepping.StepRun.decide.Goals as goal

pub returns-clause-under : goal.returns-clause-under
returns-clause-under c =
    let d = description_of c.args._machine.now in
    decided_under d _ _ _ _ _ _ c.requires.under (c.decide.ensures.decided d _ _ _ c.requires.under.stepping)
