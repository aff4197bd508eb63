use Rattle.std.proofs.Common.{◌*◌, arith}
use Rattle.mw_macro.specs.Described.{description_of}
use Rattle.mw_macro.proofs.Accepted.{accepted_few}
use Rattle.mw_rel.specs.Views.{job_of}
use Rattle.mw_rel.proofs.Relations.{solved_at}
use Rattle.mw_sim.proofs.Runs.{few_past}
use Rattle.mw_check.proofs.comparison.next_step.Goals as goal

pub step-requires-clause-cycles : goal.step-requires-clause-cycles
step-requires-clause-cycles g c =
    let solved = solved_at (job_of c.args.job.now) c.args.replay.now.boundary c.args.job.now.is_job
    c.requires.stands.there in
    omega (arith, c.requires.few.cycles, solved.most)

pub step-requires-clause-taken : goal.step-requires-clause-taken
step-requires-clause-taken g c =
    let solved = solved_at (job_of c.args.job.now) c.args.replay.now.boundary c.args.job.now.is_job
    c.requires.stands.there in
    omega (arith, c.requires.few.taken, solved.most)

pub step-requires-clause-clocks : goal.step-requires-clause-clocks
step-requires-clause-clocks g c =
    let solved = solved_at (job_of c.args.job.now) c.args.replay.now.boundary c.args.job.now.is_job
    c.requires.stands.there in
    omega (arith, c.requires.few.clocks, solved.most)

pub returns-clause-few : goal.returns-clause-few
returns-clause-few g c = record {
  cycles = omega (arith, c.requires.few.cycles, c.step.ensures.cycle);
  taken = omega (arith, c.requires.few.taken, c.step.ensures.taken);
  clocks = omega (arith, few_past _ _ _ (c.args.steps * 500) c.step.ensures.clocks c.requires.few.clocks);
}

pub step-requires-clause-inputs : goal.step-requires-clause-inputs
step-requires-clause-inputs g c =
    let few = accepted_few (description_of c.args.job.now.machine) c.args.job.now.machine.is_machine.accepted in
    omega (arith, c.requires.few.taken, few)
