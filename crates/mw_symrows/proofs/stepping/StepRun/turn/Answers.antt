use Rattle.mw_macro.specs.Described.{description_of}
use Rattle.mw_symrows.proofs.Underway.{turned}
use Rattle.mw_symrows.proofs.stepping.StepRun.turn.Goals as goal

pub returns-clause-turned : goal.returns-clause-turned
returns-clause-turned c =
    let machine = c.args.machine.now in
    turned (description_of machine) _ _ _ _ _ _ _ _ _ machine.is_machine.formed c.requires.under
    c.in_ok-turn.ensures.goes
    c.in_ok-turn.ensures.turn c.in_ok-turn.ensures.few c.in_ok-turn.ensures.stepping
