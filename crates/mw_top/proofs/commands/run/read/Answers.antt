use Rattle.std.proofs.Common.{refl, sym}
use Rattle.std.proofs.lemmas.Result.{err_from_is_err_and}
use Rattle.mw_outside.specs.Views.{shelf_shown}
use Rattle.mw_plan.specs.Plan.{Plan, done}
use Rattle.mw_plan.proofs.Steps.{at_first, all_left, stops, ends}
use Rattle.mw_top.specs.declared.commands.Work.{Work}
use Rattle.mw_top.specs.declared.commands.Work.TheVariants.{Run}
use Rattle.mw_top.specs.declared.fault.Fault.{Fault}
use Rattle.mw_top.specs.Commands.Run.{run_plan}
use Rattle.mw_top.specs.Work.{Prepared}
use Rattle.mw_top.proofs.commands.run.read.Goals as goal

-- what follows the files
abbrev after_files : Prepared → Plan Fault Work
after_files prepared = done (Run prepared)

pub returns-in_err-prepared-clause-ends : goal.returns-in_err-prepared-clause-ends
unfolding run_plan
returns-in_err-prepared-clause-ends g c =
    let error = err_from_is_err_and c.from_residual.result c.from_residual.ensures.1 in
    let first = shelf_shown g.S.Shelf c.args.shelf.now in
    stops after_files run_plan first (shelf_shown g.S.Shelf c.read_prepared.new.shelf) _ _
    c.from_residual.result (rw (sym error.2) error.1)
    (c.in_err-prepared.ensures.follows run_plan after_files first (at_first first)
    (all_left run_plan first c.args.files.now c.requires.none_read))

pub returns-clause-ends : goal.returns-clause-ends
unfolding run_plan
returns-clause-ends g c =
    let first = shelf_shown g.S.Shelf c.args.shelf.now in
    ends after_files run_plan first (shelf_shown g.S.Shelf c.read_prepared.new.shelf) _
    c.in_ok-prepared.prepared _ refl
    (c.in_ok-prepared.ensures.follows run_plan after_files first (at_first first)
    (all_left run_plan first c.args.files.now c.requires.none_read))
