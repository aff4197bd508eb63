use Rattle.std.proofs.Common.{List, arith, refl, rules, sym}
use Rattle.std.proofs.lemmas.Result.{err_from_is_err_and}
use Rattle.mw_asm.specs.declared.assembled.Label.{Label}
use Rattle.mw_outside.specs.Views.{shelf_shown}
use Rattle.mw_plan.specs.Plan.{Plan, done, first_by}
use Rattle.mw_plan.proofs.Reading.{later_still}
use Rattle.mw_plan.proofs.Steps.{at_first, all_left, stops, ends}
use Rattle.mw_rel.specs.Job.{Job}
use Rattle.mw_rel.specs.Views.{job_of}
use Rattle.mw_replay.specs.Counter.{Counter}
use Rattle.mw_replay.specs.CounterText.{counter_of}
use Rattle.mw_top.specs.declared.commands.Work.{Work}
use Rattle.mw_top.specs.declared.commands.Work.TheVariants as works
use Rattle.mw_top.specs.declared.commands.job.Labelled.{Labelled}
use Rattle.mw_top.specs.declared.fault.Fault.{Fault}
use Rattle.mw_top.specs.declared.fault.Fault.TheVariants.{Text}
use Rattle.mw_top.specs.Commands.Compare.{compare_plan}
use Rattle.mw_top.proofs.commands.compare.read.Goals as goal

-- what follows the start, and the job
abbrev after_start : Job → Counter → Plan Fault Work
after_start job counter = done (works.Comparison (record { job = job; counter = counter }))

abbrev after_job : Job → List Label → Plan Fault Work
after_job job labels = first_by Text (counter_of job labels) (after_start job)

pub next-counter-requires-clause-callable : goal.next-counter-requires-clause-callable
next-counter-requires-clause-callable g c = λ bytes few _ _ _ _ _ _. omega (arith, few)

pub returns-in_err-labelled-clause-ends : goal.returns-in_err-labelled-clause-ends
unfolding compare_plan
returns-in_err-labelled-clause-ends g c =
    let error = err_from_is_err_and c.from_residual.result c.from_residual.ensures.1 in
    let first = shelf_shown g.S.Shelf c.args.shelf.now in
    stops (λ (l : Labelled). after_job (job_of l.job) l.labels) compare_plan first
    (shelf_shown g.S.Shelf c.read_job.new.shelf) _ _ c.from_residual.result (rw (sym error.2) error.1)
    (c.in_err-labelled.ensures.follows compare_plan after_job first (at_first first)
    (all_left compare_plan first c.args.files.now c.requires.none_read))

pub returns-in-Err-clause-ends : goal.returns-in-Err-clause-ends
unfolding compare_plan
returns-in-Err-clause-ends g c =
    let first = shelf_shown g.S.Shelf c.args.shelf.now in
    let l = c.in_ok-labelled.labelled in
    let job = c.in_ok-labelled.ensures.follows compare_plan after_job first (at_first first)
    (all_left compare_plan first c.args.files.now c.requires.none_read) in
    stops (after_start (job_of l.job)) compare_plan first (shelf_shown g.S.Shelf c.next-counter.new.shelf) _
    c.in-Err.stop _ refl
    (c.in-Err.ensures.follows Text (counter_of (job_of l.job) l.labels) (λ fault seen is. is)
    (λ bytes result is. search rules) compare_plan (after_start (job_of l.job)) first
    c.in_ok-labelled.ensures.later job)

pub returns-in-Ok-clause-ends : goal.returns-in-Ok-clause-ends
unfolding compare_plan
returns-in-Ok-clause-ends g c =
    let first = shelf_shown g.S.Shelf c.args.shelf.now in
    let l = c.in_ok-labelled.labelled in
    let job = c.in_ok-labelled.ensures.follows compare_plan after_job first (at_first first)
    (all_left compare_plan first c.args.files.now c.requires.none_read) in
    ends (after_start (job_of l.job)) compare_plan first (shelf_shown g.S.Shelf c.next-counter.new.shelf) _
    c.in-Ok.counter _ refl
    (c.in-Ok.ensures.follows Text (counter_of (job_of l.job) l.labels) (λ fault seen is. is)
    (λ bytes result is. search rules) compare_plan (after_start (job_of l.job)) first
    c.in_ok-labelled.ensures.later job)

pub returns-in-Err-clause-later : goal.returns-in-Err-clause-later
returns-in-Err-clause-later g c =
    later_still _ (shelf_shown g.S.Shelf c.read_job.new.shelf) _ c.in_ok-labelled.ensures.later
    c.in-Err.ensures.later

pub returns-in-Ok-clause-later : goal.returns-in-Ok-clause-later
returns-in-Ok-clause-later g c =
    later_still _ (shelf_shown g.S.Shelf c.read_job.new.shelf) _ c.in_ok-labelled.ensures.later
    c.in-Ok.ensures.later
