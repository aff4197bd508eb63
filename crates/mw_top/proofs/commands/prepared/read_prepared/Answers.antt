use Rattle.std.proofs.Common.{arith, rules, sym}
use Rattle.std.proofs.lemmas.Result.{err_from_is_err_and}
use Rattle.mw_outside.specs.Views.{shelf_shown}
use Rattle.mw_plan.specs.Plan.{Plan, first_by}
use Rattle.mw_plan.proofs.Reading.{later_still}
use Rattle.mw_sim.specs.Start.{Start, start_of}
use Rattle.mw_top.specs.declared.commands.Work.{Work}
use Rattle.mw_asm.specs.declared.program.Program.{Program}
use Rattle.mw_top.specs.declared.fault.Fault.{Fault}
use Rattle.mw_top.specs.declared.fault.Fault.TheVariants.{Text}
use Rattle.mw_top.specs.Work.{Prepared}
use Rattle.mw_top.proofs.commands.prepared.read_prepared.Goals as goal

-- what follows the environment, and the microprogram
abbrev after_environment : (Prepared → Plan Fault Work) → Program → Start → Plan Fault Work
after_environment rest program start = rest (record { program = program; start = start })

abbrev after_microprogram : (Prepared → Plan Fault Work) → Program → Plan Fault Work
after_microprogram rest program =
    first_by Text (start_of program.board program.made.labels) (after_environment rest program)

pub next-start-requires-clause-callable : goal.next-start-requires-clause-callable
next-start-requires-clause-callable g c = λ bytes few _ _ _ _ _ _. omega (arith, few)

pub returns-in_err-program-clause-follows : goal.returns-in_err-program-clause-follows
returns-in_err-program-clause-follows g c = λ plan rest first since left.
    let error = err_from_is_err_and c.from_residual.result c.from_residual.ensures.1 in
    rw error.1 (rw (sym error.2) at
    (c.in_err-program.ensures.follows plan (after_microprogram rest) first since left))

pub returns-in-Err-clause-follows : goal.returns-in-Err-clause-follows
returns-in-Err-clause-follows g c = λ plan rest first since left.
    let p = c.in_ok-program.program in
    let program = c.in_ok-program.ensures.follows plan (after_microprogram rest) first since left in
    c.in-Err.ensures.follows Text (start_of p.board p.made.labels) (λ fault seen is. is)
    (λ bytes result is. search rules) plan (after_environment rest p) first
    (later_still _ (shelf_shown g.S.Shelf c.args.shelf.now) _ since c.in_ok-program.ensures.later) program

pub returns-in-Ok-clause-follows : goal.returns-in-Ok-clause-follows
returns-in-Ok-clause-follows g c = λ plan rest first since left.
    let p = c.in_ok-program.program in
    let program = c.in_ok-program.ensures.follows plan (after_microprogram rest) first since left in
    c.in-Ok.ensures.follows Text (start_of p.board p.made.labels) (λ fault seen is. is)
    (λ bytes result is. search rules) plan (after_environment rest p) first
    (later_still _ (shelf_shown g.S.Shelf c.args.shelf.now) _ since c.in_ok-program.ensures.later) program

pub returns-in-Err-clause-later : goal.returns-in-Err-clause-later
returns-in-Err-clause-later g c =
    later_still _ (shelf_shown g.S.Shelf c.read_microprogram.new.shelf) _ c.in_ok-program.ensures.later
    c.in-Err.ensures.later

pub returns-in-Ok-clause-later : goal.returns-in-Ok-clause-later
returns-in-Ok-clause-later g c =
    later_still _ (shelf_shown g.S.Shelf c.read_microprogram.new.shelf) _ c.in_ok-program.ensures.later
    c.in-Ok.ensures.later
