use Rattle.std.proofs.Common.{ℕ, List, arith, refl, rules, sym}
use Rattle.std.proofs.lemmas.Result.{err_from_is_err_and}
use Rattle.mw_outside.specs.Views.{shelf_shown}
use Rattle.mw_plan.specs.Plan.{Plan, done, first_by}
use Rattle.mw_plan.proofs.Reading.{later_still}
use Rattle.mw_plan.proofs.Steps.{at_first, all_left, stops, ends}
use Rattle.mw_top.specs.declared.commands.Work.{Work}
use Rattle.mw_top.specs.declared.commands.Work.TheVariants.{Trace}
use Rattle.mw_top.specs.declared.fault.Fault.{Fault}
use Rattle.mw_top.specs.declared.fault.Fault.TheVariants.{Text}
use Rattle.mw_top.specs.Commands.Debug.{debug_plan, traced}
use Rattle.mw_top.specs.Work.{Prepared}
use Rattle.mw_top.proofs.commands.debug.read.Goals as goal

-- what follows the script, and the files before it
abbrev after_script : List ℕ → Plan Fault Work
after_script trace = done (Trace trace)

abbrev after_files : Prepared → Plan Fault Work
after_files prepared = first_by Text (traced prepared) after_script

pub next-trace-requires-clause-callable : goal.next-trace-requires-clause-callable
next-trace-requires-clause-callable g c = λ bytes few _ _ _ _ _ _. omega (arith, few)

pub returns-in_err-prepared-clause-ends : goal.returns-in_err-prepared-clause-ends
unfolding debug_plan
returns-in_err-prepared-clause-ends g c =
    let error = err_from_is_err_and c.from_residual.result c.from_residual.ensures.1 in
    let first = shelf_shown g.S.Shelf c.args.shelf.now in
    stops after_files debug_plan first (shelf_shown g.S.Shelf c.read_prepared.new.shelf) _ _
    c.from_residual.result (rw (sym error.2) error.1)
    (c.in_err-prepared.ensures.follows debug_plan after_files first (at_first first)
    (all_left debug_plan first c.args.files.now c.requires.none_read))

pub returns-in_err-trace-clause-ends : goal.returns-in_err-trace-clause-ends
unfolding debug_plan
returns-in_err-trace-clause-ends g c =
    let error = err_from_is_err_and c.from_residual-in_err-trace.result c.from_residual-in_err-trace.ensures.1 in
    let first = shelf_shown g.S.Shelf c.args.shelf.now in
    let prepared = c.in_ok-prepared.ensures.follows debug_plan after_files first (at_first first)
    (all_left debug_plan first c.args.files.now c.requires.none_read) in
    stops after_script debug_plan first (shelf_shown g.S.Shelf c.next-trace.new.shelf) _ _
    c.from_residual-in_err-trace.result (rw (sym error.2) error.1)
    (c.in_err-trace.ensures.follows Text (traced c.in_ok-prepared.prepared) (λ fault seen is. is)
    (λ bytes result is. search rules) debug_plan after_script first c.in_ok-prepared.ensures.later prepared)

pub returns-clause-ends : goal.returns-clause-ends
unfolding debug_plan
returns-clause-ends g c =
    let first = shelf_shown g.S.Shelf c.args.shelf.now in
    let prepared = c.in_ok-prepared.ensures.follows debug_plan after_files first (at_first first)
    (all_left debug_plan first c.args.files.now c.requires.none_read) in
    ends after_script debug_plan first (shelf_shown g.S.Shelf c.next-trace.new.shelf) _ _ _ refl
    (c.in_ok-trace.ensures.follows Text (traced c.in_ok-prepared.prepared) (λ fault seen is. is)
    (λ bytes result is. search rules) debug_plan after_script first c.in_ok-prepared.ensures.later prepared)

pub returns-in_err-trace-clause-later : goal.returns-in_err-trace-clause-later
returns-in_err-trace-clause-later g c =
    later_still _ (shelf_shown g.S.Shelf c.read_prepared.new.shelf) _ c.in_ok-prepared.ensures.later
    c.in_err-trace.ensures.later

pub returns-clause-later : goal.returns-clause-later
returns-clause-later g c =
    later_still _ (shelf_shown g.S.Shelf c.read_prepared.new.shelf) _ c.in_ok-prepared.ensures.later
    c.in_ok-trace.ensures.later
