use Rattle.std.proofs.Common.{sym, ◌∙◌}
use Rattle.mw_rel.specs.Views.{job_of}
use Rattle.mw_replay.specs.Replay.{next_start}
use Rattle.mw_replay.specs.Views.{replay_of}
use Rattle.mw_replay.proofs.Segments.{follows_after, shown_after, stands_after}
use Rattle.mw_replay.proofs.stepping.advance.Goals as goal

pub returns-clause-shown : goal.returns-clause-shown
returns-clause-shown g c =
    let job = job_of c.args.job.now in
    let replay = replay_of c.args.stand.now in
    let stand = c.run_both.new.stand in
    let comes = c.in-Some.ensures.reached in
    shown_after job (next_start job replay) replay.clock stand.pair.board stand.events.items c.in-Some.reached.clock
    stand.pair.machine stand.steps.items c.in-Some.reached.boundary c.difference_at.result comes.ended comes.at
    comes.machine comes.steps (rw (c.deref.ensures.value, c.deref-2.ensures.value) at c.difference_at.ensures)

pub returns-clause-follows : goal.returns-clause-follows
returns-clause-follows g c none =
    let job = job_of c.args.job.now in
    let replay = replay_of c.args.stand.now in
    let stand = c.run_both.new.stand in
    let comes = c.in-Some.ensures.reached in
    rw c.in-Some.ensures.env (follows_after job replay stand.pair stand.events.items c.in-Some.reached.clock
    c.in-Some.reached.boundary comes.ended comes.at comes.machine)

pub returns-clause-place : goal.returns-clause-place
returns-clause-place g c none =
    let ended = c.in-Some.ensures.reached.ended in
    (ended.run, ended.segment, ended.clock)

pub returns-clause-stands : goal.returns-clause-stands
returns-clause-stands g c none =
    let job = job_of c.args.job.now in
    let replay = replay_of c.args.stand.now in
    let stand = c.run_both.new.stand in
    let comes = c.in-Some.ensures.reached in
    rw c.in-Some.ensures.env (stands_after job replay stand.pair stand.events.items c.in-Some.reached.clock
    c.in-Some.reached.boundary c.in-Some.ensures.job c.requires.stands (sym (returns-clause-shown g c) ∙ none)
    comes.ended comes.at comes.there comes.machine)
