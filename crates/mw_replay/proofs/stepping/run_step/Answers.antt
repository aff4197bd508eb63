use Rattle.std.proofs.Common.{ap, ap₂, ◌∙◌, arith}
use Rattle.mw_cycle.specs.Environment.{Environment}
use Rattle.mw_macro.specs.Described.{description_of}
use Rattle.mw_macro.specs.DescribedStep.{Stepped}
use Rattle.mw_macro.proofs.Accepted.{accepted_few}
use Rattle.mw_rel.specs.InRelation.{Pair, pair_of}
use Rattle.mw_rel.specs.Views.{job_of}
use Rattle.mw_replay.proofs.Segments.{step_is}
use Rattle.mw_replay.proofs.stepping.run_step.Goals as goal

pub step-requires-clause-room : goal.step-requires-clause-room
step-requires-clause-room c =
    let few = accepted_few (description_of c.args.job.now.machine) c.args.job.now.machine.is_machine.accepted in
    omega (arith, c.clear.ensures.len, c.clear.ensures.capacity, c.requires.room, few)

pub returns-clause-pair : goal.returns-clause-pair
returns-clause-pair c =
    let step = step_is (job_of c.args.job.now) c.pair.inside.board c.pair.inside.machine c.args.pair.now c.args.env.now
    c.args.clock c.request_of-request.result c.deref.result.now c.pair.view_is c.request_of-request.ensures
    (c.deref.ensures.value ∙ ap (λ (env : Environment). env.inputs) c.env.view_is) in
    ap₂ pair_of (ap (λ (p : Pair). p.board) c.pair.view_is)
    (c.step.ensures.state ∙ ap (λ (s : Stepped). s.state) step)

pub returns-clause-events : goal.returns-clause-events
returns-clause-events c =
    let step = step_is (job_of c.args.job.now) c.pair.inside.board c.pair.inside.machine c.args.pair.now c.args.env.now
    c.args.clock c.request_of-request.result c.deref.result.now c.pair.view_is c.request_of-request.ensures
    (c.deref.ensures.value ∙ ap (λ (env : Environment). env.inputs) c.env.view_is) in
    c.step.ensures.events ∙ rw c.clear.ensures.items (ap (λ (s : Stepped). s.events) step)
