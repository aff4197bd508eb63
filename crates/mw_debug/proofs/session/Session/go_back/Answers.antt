use Rattle.mw_debug.specs.Views.{moment_of, session_seen}
use Rattle.mw_debug.proofs.Back.{history_popped, moments_left, no_history, none_left, one_back, within_memory}
use Rattle.mw_debug.proofs.session.Session.go_back.Goals as goal

pub restore-requires : goal.restore-requires
restore-requires c =
    let s = session_seen c.entries.self in
    let memory = c.entries.self.state.memory in
    let popped = history_popped c.entries.self.journal.items c.pop.new.self.items c.in-Some.undo memory
    c.in-Some.ensures.items in
    within_memory c.args.board.now memory c.in-Some.undo _ c.entries.invariant.kept.moments.0.fits.size
    (moments_left c.args.board.now s.now (moment_of c.in-Some.undo memory) s.history _
    c.entries.invariant.kept.moments popped)

pub returns-in-None-clause-gives : goal.returns-in-None-clause-gives
returns-in-None-clause-gives c =
    none_left c.args.fault (session_seen c.args.self.now) (session_seen c.entries.self) c.entries.counter c.args.count
    c.entries.invariant.so_far
    (no_history c.entries.self.journal.items c.pop.new.self.items c.entries.self.state.memory _ c.in-None.ensures.items
    c.in-None.ensures.rest c.in-None.ensures.cases.0)
    c.entries-test.true

pub entries-preserved : goal.entries-preserved
entries-preserved c =
    let s = session_seen c.entries.self in
    let memory = c.entries.self.state.memory in
    let popped = history_popped c.entries.self.journal.items c.pop.new.self.items c.in-Some.undo memory
    c.in-Some.ensures.items in
    rw c.restore.ensures (record {
      so_far = one_back (session_seen c.args.self.now) s c.entries.counter (moment_of c.in-Some.undo memory) _
          c.entries.invariant.so_far popped;
      watched = c.entries.invariant.watched;
      text = c.entries.invariant.text;
      kept = record {
        moments = moments_left c.args.board.now s.now (moment_of c.in-Some.undo memory) s.history _
            c.entries.invariant.kept.moments popped;
        watched = c.entries.invariant.kept.watched;
      };
    })
