use Rattle.std.proofs.Common.{◌≡◌, subst, sym}
use Rattle.mw_macro.specs.StepWords.{begun_words}
use Rattle.mw_symmach.specs.Turns.{Waits}
use Rattle.mw_symmach.specs.Walks.{underway_of}
use Rattle.mw_rel.specs.Views.{job_of}
use Rattle.mw_course.specs.Listed.{list_of_space}
use Rattle.mw_course.proofs.OnStep.{Begins, begun_behind}
use Rattle.mw_course.proofs.Steps.{underway_behind, waits_behind}
use Rattle.mw_course.proofs.step.begin.Goals as goal

pub returns-clause-under : goal.returns-clause-under
returns-clause-under c =
    let job = job_of c.args.job.now in
    let run = c.args.run.now in
    let valid = c.args.job.now.is_job in
    let waits =
    waits_behind job _ _ _ _ _ _ valid c.requires.under c.count.ensures.own c.request-request.ensures.wide in
    let e = c.in_ok-step.ensures in
    underway_behind job _ _ _ _ _ _ valid c.requires.under c.requires.few e.reads
    (e.stepping run.space.terms run.space.words run.space.memory
    (subst
    (λ registers. Waits job.machine run.space.terms run.space.words run.space.memory registers c.request-request.result)
    (sym c.as_slice.ensures) waits))

pub returns-clause-goes : goal.returns-clause-goes
returns-clause-goes c = λ number cycles elements bits path met.
    let job = job_of c.args.job.now in
    let run = c.args.run.now in
    let request = c.request-request.result in
    let e = c.in_ok-step.ensures in
    begun_behind job number cycles elements bits path run request c.in_ok-step.step
    (subst (λ registers. Begins job run.space.terms run.space.memory registers request c.in_ok-step.step)
    c.as_slice.ensures (e.step run.space.terms run.space.memory)) e.left
    (subst (λ registers. underway_of job.machine run.space.terms run.space.words run.space.memory c.in_ok-step.step
    ≡ begun_words job.machine registers request run.space.memory.machine (list_of_space run.space))
    c.as_slice.ensures
    (e.listed run.space.terms run.space.words run.space.memory)) c.request-request.ensures.line met
