use Rattle.std.proofs.Common.{List, refl, sym}
use Rattle.std.proofs.lemmas.Result.{err_from_is_err_and}
use Rattle.mw_asm.specs.declared.assembled.Label.{Label}
use Rattle.mw_outside.specs.Views.{shelf_shown}
use Rattle.mw_plan.specs.Plan.{Plan, done}
use Rattle.mw_plan.proofs.Steps.{at_first, all_left, stops, ends}
use Rattle.mw_rel.specs.Job.{Job}
use Rattle.mw_rel.specs.Views.{job_of}
use Rattle.mw_top.specs.declared.commands.Work.{Work}
use Rattle.mw_top.specs.declared.commands.Work.TheVariants.{Bounds}
use Rattle.mw_top.specs.declared.commands.job.Labelled.{Labelled}
use Rattle.mw_top.specs.declared.fault.Fault.{Fault}
use Rattle.mw_top.specs.Commands.Bounds.{bounds_plan}
use Rattle.mw_top.proofs.commands.bounds.read.Goals as goal

-- what follows the job
abbrev after_job : Job → List Label → Plan Fault Work
after_job job labels = done (Bounds job)

pub returns-in_err-labelled-clause-ends : goal.returns-in_err-labelled-clause-ends
unfolding bounds_plan
returns-in_err-labelled-clause-ends g c =
    let error = err_from_is_err_and c.from_residual.result c.from_residual.ensures.1 in
    let first = shelf_shown g.S.Shelf c.args.shelf.now in
    stops (λ (l : Labelled). after_job (job_of l.job) l.labels) bounds_plan first
    (shelf_shown g.S.Shelf c.read_job.new.shelf) _ _ c.from_residual.result (rw (sym error.2) error.1)
    (c.in_err-labelled.ensures.follows bounds_plan after_job first (at_first first)
    (all_left bounds_plan first c.args.files.now c.requires.none_read))

pub returns-clause-ends : goal.returns-clause-ends
unfolding bounds_plan
returns-clause-ends g c =
    let first = shelf_shown g.S.Shelf c.args.shelf.now in
    ends (λ (l : Labelled). after_job (job_of l.job) l.labels) bounds_plan first
    (shelf_shown g.S.Shelf c.read_job.new.shelf) _ c.in_ok-labelled.labelled _ refl
    (c.in_ok-labelled.ensures.follows bounds_plan after_job first (at_first first)
    (all_left bounds_plan first c.args.files.now c.requires.none_read))
