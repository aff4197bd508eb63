use Rattle.mw_outside.specs.Views.{shelf_shown}
use Rattle.mw_plan.proofs.Steps.{all_left}
use Rattle.mw_top.specs.Commands.Generate.{generate_plan}
use Rattle.mw_top.proofs.commands.read_files.Goals as goal

-- no file is asked for, and so the plan is done
pub returns-in-Generation-clause-ends : goal.returns-in-Generation-clause-ends
unfolding generate_plan
returns-in-Generation-clause-ends g c =
    rw c.in-Generation.is
    (all_left generate_plan (shelf_shown g.S.Shelf c.args.shelf.now) c.args.files.now c.requires.none_read)
