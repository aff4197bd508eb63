use Rattle.std.proofs.Common.{refl, sym}
use Rattle.std.proofs.lemmas.Result.{err_from_is_err_and}
use Rattle.mw_outside.specs.Views.{shelf_shown}
use Rattle.mw_plan.specs.Plan.{Plan, done}
use Rattle.mw_plan.proofs.Steps.{at_first, all_left, stops, ends}
use Rattle.mw_top.specs.declared.commands.Work.{Work}
use Rattle.mw_top.specs.declared.commands.Work.TheVariants.{Assembly}
use Rattle.mw_asm.specs.declared.program.Program.{Program}
use Rattle.mw_top.specs.declared.fault.Fault.{Fault}
use Rattle.mw_top.specs.Commands.Asm.{asm_plan}
use Rattle.mw_top.proofs.commands.asm.read.Goals as goal

-- what follows the microprogram
abbrev after_microprogram : Program → Plan Fault Work
after_microprogram program = done (Assembly program)

pub returns-in_err-program-clause-ends : goal.returns-in_err-program-clause-ends
unfolding asm_plan
returns-in_err-program-clause-ends g c =
    let error = err_from_is_err_and c.from_residual.result c.from_residual.ensures.1 in
    let first = shelf_shown g.S.Shelf c.args.shelf.now in
    stops after_microprogram asm_plan first (shelf_shown g.S.Shelf c.read_microprogram.new.shelf) _ _
    c.from_residual.result (rw (sym error.2) error.1)
    (c.in_err-program.ensures.follows asm_plan after_microprogram first (at_first first)
    (all_left asm_plan first c.args.files.now c.requires.none_read))

pub returns-clause-ends : goal.returns-clause-ends
unfolding asm_plan
returns-clause-ends g c =
    let first = shelf_shown g.S.Shelf c.args.shelf.now in
    ends after_microprogram asm_plan first (shelf_shown g.S.Shelf c.read_microprogram.new.shelf) _
    c.in_ok-program.program _ refl
    (c.in_ok-program.ensures.follows asm_plan after_microprogram first (at_first first)
    (all_left asm_plan first c.args.files.now c.requires.none_read))
