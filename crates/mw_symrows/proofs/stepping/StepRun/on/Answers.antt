use Rattle.mw_macro.specs.Described.{description_of}
use Rattle.mw_symrows.proofs.Underway.{under_waits}
use Rattle.mw_symrows.proofs.stepping.StepRun.on.Goals as goal

pub returns-clause-under : goal.returns-clause-under
returns-clause-under c =
    let machine = c.args.machine.now in
    under_waits (description_of machine) _ _ _ _ _ _ machine.is_machine.right c.requires.waits c.requires.few
    c.in_ok-step.ensures.reads
    (c.in_ok-step.ensures.stepping c.args.terms c.args.words c.args.memory c.requires.waits)
