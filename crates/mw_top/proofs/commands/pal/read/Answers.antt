use Rattle.std.proofs.Common.{ℕ, List, arith, refl, rules, sym}
use Rattle.std.proofs.lemmas.Result.{err_from_is_err_and}
use Rattle.mw_asm.specs.declared.assembled.Label.{Label}
use Rattle.mw_outside.specs.Views.{shelf_shown}
use Rattle.mw_plan.specs.Plan.{Plan, done, first_by}
use Rattle.mw_plan.proofs.Reading.{later_still}
use Rattle.mw_plan.proofs.Steps.{at_first, all_left, stops, ends}
use Rattle.mw_rel.specs.Job.{Job}
use Rattle.mw_rel.specs.Views.{job_of}
use Rattle.mw_top.specs.declared.commands.Work.{Work}
use Rattle.mw_top.specs.declared.commands.Work.TheVariants as works
use Rattle.mw_top.specs.declared.commands.job.Labelled.{Labelled}
use Rattle.mw_top.specs.declared.fault.Fault.{Fault}
use Rattle.mw_top.specs.declared.fault.Fault.TheVariants.{Text}
use Rattle.mw_top.specs.Commands.Pal.{keys_of, pal_plan, source_of}
use Rattle.mw_top.proofs.commands.pal.read.Goals as goal

-- what follows the keys, the source, and the job
abbrev after_keys : Job → List ℕ → List ℕ → Plan Fault Work
after_keys job memory keys = done (works.Console (record { job = job; memory = memory; keys = keys }))

abbrev after_source : Job → List ℕ → Plan Fault Work
after_source job memory = first_by Text keys_of (after_keys job memory)

abbrev after_job : Job → List Label → Plan Fault Work
after_job job labels = first_by Text (source_of job) (after_source job)

pub next-requires-clause-callable : goal.next-requires-clause-callable
next-requires-clause-callable g c = λ bytes few _ _ _ _ _ _. omega (arith, few)

pub returns-in_err-labelled-clause-ends : goal.returns-in_err-labelled-clause-ends
unfolding pal_plan
returns-in_err-labelled-clause-ends g c =
    let error = err_from_is_err_and c.from_residual.result c.from_residual.ensures.1 in
    let first = shelf_shown g.S.Shelf c.args.shelf.now in
    stops (λ (l : Labelled). after_job (job_of l.job) l.labels) pal_plan first
    (shelf_shown g.S.Shelf c.read_job.new.shelf) _ _ c.from_residual.result (rw (sym error.2) error.1)
    (c.in_err-labelled.ensures.follows pal_plan after_job first (at_first first)
    (all_left pal_plan first c.args.files.now c.requires.none_read))

pub returns-in-Err-clause-ends : goal.returns-in-Err-clause-ends
unfolding pal_plan
returns-in-Err-clause-ends g c =
    let first = shelf_shown g.S.Shelf c.args.shelf.now in
    let l = c.in_ok-labelled.labelled in
    let job = c.in_ok-labelled.ensures.follows pal_plan after_job first (at_first first)
    (all_left pal_plan first c.args.files.now c.requires.none_read) in
    stops (after_source (job_of l.job)) pal_plan first (shelf_shown g.S.Shelf c.next.new.shelf) _
    c.in-Err.stop _ refl
    (c.in-Err.ensures.follows Text (source_of (job_of l.job)) (λ fault seen is. is)
    (λ bytes result is. search rules) pal_plan (after_source (job_of l.job)) first c.in_ok-labelled.ensures.later job)

pub returns-in-Err-keys-clause-ends : goal.returns-in-Err-keys-clause-ends
unfolding pal_plan
returns-in-Err-keys-clause-ends g c =
    let first = shelf_shown g.S.Shelf c.args.shelf.now in
    let second = shelf_shown g.S.Shelf c.read_job.new.shelf in
    let l = c.in_ok-labelled.labelled in
    let job = c.in_ok-labelled.ensures.follows pal_plan after_job first (at_first first)
    (all_left pal_plan first c.args.files.now c.requires.none_read) in
    let source = c.in-Ok.ensures.follows Text (source_of (job_of l.job)) (λ fault seen is. is)
    (λ bytes result is. search rules) pal_plan (after_source (job_of l.job)) first c.in_ok-labelled.ensures.later job in
    let last = after_keys (job_of l.job) c.in-Ok.memory in
    stops last pal_plan first (shelf_shown g.S.Shelf c.next-keys.new.shelf) _ c.in-Err-keys.stop _ refl
    (c.in-Err-keys.ensures.follows Text keys_of (λ fault seen is. is) (λ bytes result is. search rules) pal_plan last
    first (later_still _ second _ c.in_ok-labelled.ensures.later c.in-Ok.ensures.later) source)

pub returns-in-Ok-keys-clause-ends : goal.returns-in-Ok-keys-clause-ends
unfolding pal_plan
returns-in-Ok-keys-clause-ends g c =
    let first = shelf_shown g.S.Shelf c.args.shelf.now in
    let second = shelf_shown g.S.Shelf c.read_job.new.shelf in
    let l = c.in_ok-labelled.labelled in
    let job = c.in_ok-labelled.ensures.follows pal_plan after_job first (at_first first)
    (all_left pal_plan first c.args.files.now c.requires.none_read) in
    let source = c.in-Ok.ensures.follows Text (source_of (job_of l.job)) (λ fault seen is. is)
    (λ bytes result is. search rules) pal_plan (after_source (job_of l.job)) first c.in_ok-labelled.ensures.later job in
    let last = after_keys (job_of l.job) c.in-Ok.memory in
    ends last pal_plan first (shelf_shown g.S.Shelf c.next-keys.new.shelf) _ c.in-Ok-keys.keys _ refl
    (c.in-Ok-keys.ensures.follows Text keys_of (λ fault seen is. is) (λ bytes result is. search rules) pal_plan last
    first (later_still _ second _ c.in_ok-labelled.ensures.later c.in-Ok.ensures.later) source)

pub returns-in-Err-clause-later : goal.returns-in-Err-clause-later
returns-in-Err-clause-later g c =
    later_still _ (shelf_shown g.S.Shelf c.read_job.new.shelf) _ c.in_ok-labelled.ensures.later c.in-Err.ensures.later

pub returns-in-Err-keys-clause-later : goal.returns-in-Err-keys-clause-later
returns-in-Err-keys-clause-later g c =
    later_still _ (shelf_shown g.S.Shelf c.next.new.shelf) _
    (later_still _ (shelf_shown g.S.Shelf c.read_job.new.shelf) _ c.in_ok-labelled.ensures.later c.in-Ok.ensures.later)
    c.in-Err-keys.ensures.later

pub returns-in-Ok-keys-clause-later : goal.returns-in-Ok-keys-clause-later
returns-in-Ok-keys-clause-later g c =
    later_still _ (shelf_shown g.S.Shelf c.next.new.shelf) _
    (later_still _ (shelf_shown g.S.Shelf c.read_job.new.shelf) _ c.in_ok-labelled.ensures.later c.in-Ok.ensures.later)
    c.in-Ok-keys.ensures.later
