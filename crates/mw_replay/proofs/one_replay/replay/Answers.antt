use Rattle.std.proofs.Common.{ap, arith}
use Rattle.mw_cycle.specs.declared.environment.Clock.{Clock}
use Rattle.mw_macro.specs.Described.{description_of}
use Rattle.mw_macro.proofs.Accepted.{accepted_few}
use Rattle.mw_rel.specs.Views.{job_of}
use Rattle.mw_rel.proofs.Relations.{solved_at}
use Rattle.mw_replay.proofs.one_replay.replay.Goals as goal

pub step-requires-clause-cycles : goal.step-requires-clause-cycles
step-requires-clause-cycles c =
    let solved = solved_at (job_of c.args.job.now) c.in_ok-replay.replay.boundary c.args.job.now.is_job
    c.in_ok-replay.ensures.stands.there in
    omega (arith, ap (λ (clock : Clock). clock.cycle) c.in_ok-replay.ensures.clock, solved.most)

pub step-requires-clause-taken : goal.step-requires-clause-taken
step-requires-clause-taken c =
    let solved = solved_at (job_of c.args.job.now) c.in_ok-replay.replay.boundary c.args.job.now.is_job
    c.in_ok-replay.ensures.stands.there in
    omega (arith, ap (λ (clock : Clock). clock.taken) c.in_ok-replay.ensures.clock, solved.most)

pub step-requires-clause-clocks : goal.step-requires-clause-clocks
step-requires-clause-clocks c =
    let solved = solved_at (job_of c.args.job.now) c.in_ok-replay.replay.boundary c.args.job.now.is_job
    c.in_ok-replay.ensures.stands.there in
    omega (arith, ap (λ (clock : Clock). clock.clocks) c.in_ok-replay.ensures.clock, solved.most)

pub step-requires-clause-inputs : goal.step-requires-clause-inputs
step-requires-clause-inputs c =
    let few = accepted_few (description_of c.args.job.now.machine) c.args.job.now.machine.is_machine.accepted in
    omega (arith, ap (λ (clock : Clock). clock.taken) c.in_ok-replay.ensures.clock, few)
