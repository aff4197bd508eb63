use Rattle.std.proofs.Common.{List, arith, rules, sym}
use Rattle.std.proofs.lemmas.Result.{err_from_is_err_and}
use Rattle.mw_asm.specs.declared.assembled.Label.{Label}
use Rattle.mw_descfile.specs.Machine.{machine_of}
use Rattle.mw_descfile.specs.Relation.{relation_of}
use Rattle.mw_macro.specs.Machine.{Description}
use Rattle.mw_outside.specs.Views.{shelf_shown}
use Rattle.mw_plan.specs.Plan.{Plan, first_by}
use Rattle.mw_plan.proofs.Reading.{later_still}
use Rattle.mw_rel.specs.Job.{Job, job_with}
use Rattle.mw_rel.specs.Relation.{Relation}
use Rattle.mw_top.specs.declared.commands.Work.{Work}
use Rattle.mw_asm.specs.declared.program.Program.{Program}
use Rattle.mw_top.specs.declared.fault.Fault.{Fault}
use Rattle.mw_top.specs.declared.fault.Fault.TheVariants.{Text}
use Rattle.mw_top.proofs.commands.job.read_job.Goals as goal

-- what follows the relation, the machine, and the microprogram
abbrev after_relation : (Job → List Label → Plan Fault Work) → Program → Description → Relation → Plan Fault Work
after_relation rest p machine relation = rest (job_with p.board p.made.store.words machine relation) p.made.labels

abbrev after_machine : (Job → List Label → Plan Fault Work) → Program → Description → Plan Fault Work
after_machine rest p machine =
    first_by Text (relation_of p.board p.made.labels machine) (after_relation rest p machine)

abbrev after_microprogram : (Job → List Label → Plan Fault Work) → Program → Plan Fault Work
after_microprogram rest p = first_by Text machine_of (after_machine rest p)

pub next-requires-clause-callable : goal.next-requires-clause-callable
next-requires-clause-callable g c = λ bytes few _ _ _ _ _ _. omega (arith, few)

pub next-relation-requires-clause-callable : goal.next-relation-requires-clause-callable
next-relation-requires-clause-callable g c = λ bytes few _ _ _ _ _ _. omega (arith, few)

pub returns-in_err-program-clause-follows : goal.returns-in_err-program-clause-follows
returns-in_err-program-clause-follows g c = λ plan rest first since left.
    let error = err_from_is_err_and c.from_residual.result c.from_residual.ensures.1 in
    rw error.1 (rw (sym error.2) at
    (c.in_err-program.ensures.follows plan (after_microprogram rest) first since left))

pub returns-in-Err-clause-follows : goal.returns-in-Err-clause-follows
returns-in-Err-clause-follows g c = λ plan rest first since left.
    let second = shelf_shown g.S.Shelf c.args.shelf.now in
    let p = c.in_ok-program.program in
    let program = c.in_ok-program.ensures.follows plan (after_microprogram rest) first since left in
    c.in-Err.ensures.follows Text machine_of (λ fault seen is. is) (λ bytes result is. search rules) plan
    (after_machine rest p) first (later_still _ second _ since c.in_ok-program.ensures.later) program

pub returns-in-Err-relation-clause-follows : goal.returns-in-Err-relation-clause-follows
returns-in-Err-relation-clause-follows g c = λ plan rest first since left.
    let second = shelf_shown g.S.Shelf c.args.shelf.now in
    let third = shelf_shown g.S.Shelf c.read_microprogram.new.shelf in
    let p = c.in_ok-program.program in
    let since_program = later_still _ second _ since c.in_ok-program.ensures.later in
    let program = c.in_ok-program.ensures.follows plan (after_microprogram rest) first since left in
    let machine = c.in-Ok.ensures.follows Text machine_of (λ fault seen is. is)
    (λ bytes result is. search rules) plan (after_machine rest p) first since_program program in
    c.in-Err-relation.ensures.follows Text (relation_of p.board p.made.labels c.in-Ok.machine)
    (λ fault seen is. is) (λ bytes result is. search rules) plan (after_relation rest p c.in-Ok.machine) first
    (later_still _ third _ since_program c.in-Ok.ensures.later) machine

pub returns-in-Ok-relation-clause-follows : goal.returns-in-Ok-relation-clause-follows
returns-in-Ok-relation-clause-follows g c = λ plan rest first since left.
    let second = shelf_shown g.S.Shelf c.args.shelf.now in
    let third = shelf_shown g.S.Shelf c.read_microprogram.new.shelf in
    let p = c.in_ok-program.program in
    let since_program = later_still _ second _ since c.in_ok-program.ensures.later in
    let program = c.in_ok-program.ensures.follows plan (after_microprogram rest) first since left in
    let machine = c.in-Ok.ensures.follows Text machine_of (λ fault seen is. is)
    (λ bytes result is. search rules) plan (after_machine rest p) first since_program program in
    rw (c.job_with.ensures.job, c.job_with.ensures.labels) (c.in-Ok-relation.ensures.follows Text
    (relation_of p.board p.made.labels c.in-Ok.machine) (λ fault seen is. is)
    (λ bytes result is. search rules) plan (after_relation rest p c.in-Ok.machine) first
    (later_still _ third _ since_program c.in-Ok.ensures.later) machine)
