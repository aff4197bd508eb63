use Rattle.std.proofs.Common.{sym, ap, ◌∙◌, arith}
use Rattle.mw_cycle.specs.declared.series.Series.TheVariants.{Inputs}
use Rattle.mw_rel.specs.InRelation.{Pair}
use Rattle.mw_rel.specs.Relation.{Boundary}
use Rattle.mw_rel.specs.Views.{job_of}
use Rattle.mw_rel.proofs.Relations.{solved_at}
use Rattle.mw_sim.proofs.Runs.{few_of_fewer}
use Rattle.mw_replay.specs.CounterText.{number_at}
use Rattle.mw_replay.specs.Replay.{next_start}
use Rattle.mw_replay.specs.Views.{replay_of}
use Rattle.mw_replay.proofs.Segments.{ended_at, late_at, nowhere_at, short}
use Rattle.mw_replay.proofs.stepping.run_both.Goals as goal

pub run_step-requires-clause-inputs : goal.run_step-requires-clause-inputs
run_step-requires-clause-inputs g c = λ i. rw c.args.job.now.is_job.matched.word (c.requires.stands.env.values Inputs i)

pub run_segment-ended-requires-clause-room : goal.run_segment-ended-requires-clause-room
run_segment-ended-requires-clause-room g c =
    let job = job_of c.args.job.now in
    let solved = solved_at job c.args.stand.now.boundary c.args.job.now.is_job c.requires.stands.there in
    let same = ap (λ (b : Boundary). b.bound) c.boundary.ensures in
    omega (arith, same, solved.most, c.requires.room.segment)

pub returns-in_default-clause-late : goal.returns-in_default-clause-late
returns-in_default-clause-late g c none =
    let job = job_of c.args.job.now in
    let board = ap (λ (p : Pair). p.board) c.run_step.ensures.pair in
    late_at job (replay_of c.args.stand.now) c.run_step.new.pair.board c.boundary.result.now.bound board
    (ap (λ (b : Boundary). b.bound) c.boundary.ensures) (c.run_segment-ended.ensures.late c.in_default.is)

pub returns-in_default-number_at-clause-late : goal.returns-in_default-number_at-clause-late
returns-in_default-number_at-clause-late g c none =
    let job = job_of c.args.job.now in
    let replay = replay_of c.args.stand.now in
    let board = ap (λ (p : Pair). p.board) c.run_step.ensures.pair in
    let new = c.run_segment-ended.new.pair in
    let events = c.run_segment-ended.new.events.items in
    let ended =
    ended_at job replay c.run_step.new.pair.board c.boundary.result.now.bound new.board events c.in-Some.clock
    board (ap (λ (b : Boundary). b.bound) c.boundary.ensures) c.in-Some.ensures.reached in
    nowhere_at job replay new.board events c.in-Some.clock ended
    (ap (number_at job) (sym c.address_of.ensures) ∙ sym c.number_at.ensures.exact ∙ c.in_default-number_at.is)

pub returns-clause-reached : goal.returns-clause-reached
returns-clause-reached g c =
    let job = job_of c.args.job.now in
    let board = ap (λ (p : Pair). p.board) c.run_step.ensures.pair in
    record {
      ended = ended_at job (replay_of c.args.stand.now) c.run_step.new.pair.board c.boundary.result.now.bound
          c.run_segment-ended.new.pair.board c.run_segment-ended.new.events.items c.in-Some.clock board
          (ap (λ (b : Boundary). b.bound) c.boundary.ensures) c.in-Some.ensures.reached;
      at = ap (number_at job) (sym c.address_of.ensures) ∙ sym c.in-Some-number_at.ensures.exact;
      there = c.in-Some-number_at.ensures.there;
      machine = c.run_segment-ended.ensures.machine ∙ ap (λ (p : Pair). p.machine) c.run_step.ensures.pair;
      steps = c.run_step.ensures.events;
    }

pub returns-clause-short : goal.returns-clause-short
returns-clause-short g c =
    let job = job_of c.args.job.now in
    let replay = replay_of c.args.stand.now in
    let solved = solved_at job replay.boundary c.args.job.now.is_job c.requires.stands.there in
    let bound = ap (λ (b : Boundary). b.bound) c.boundary.ensures in
    short job (next_start job replay) replay.clock c.run_segment-ended.new.pair.board
    c.run_segment-ended.new.events.items c.in-Some.clock (returns-clause-reached g c).ended solved.most
    (few_of_fewer _ _ _ _ c.in-Some.ensures.clocks (omega (arith, bound, solved.most)))
