use Rattle.std.proofs.Common.{◌++◌, ◌∷◌, ap, refl, arith}
use Rattle.std.specs.List.{flat_map}
use Rattle.mw_cycle.specs.Run.{BoardRun}
use Rattle.mw_sim.specs.Run.{run_at}
use Rattle.mw_debug.specs.Session.{Session, numbered_event, reached, with_cycle}
use Rattle.mw_debug.specs.Views.{session_seen, undo_of}
use Rattle.mw_debug.proofs.Cycles.{cycle_from, run_made}
use Rattle.mw_debug.proofs.Moments.{cycle_undone, has_fewer, history_with, session_on}
use Rattle.mw_debug.proofs.session.Session.make_cycle.Goals as goal

pub run_cycles-self-requires-clause-cycle : goal.run_cycles-self-requires-clause-cycle
run_cycles-self-requires-clause-cycle c =
    (has_fewer c.args.board.now (session_seen c.args.self.now).now c.args.self.now.journal.items _ _
    c.args.self.now.state.memory c.entries.result c.requires.kept.moments c.in_ok-push.ensures.items
    c.entries.ensures.exact c.entries.ensures.few).cycle

pub run_cycles-self-requires-clause-taken : goal.run_cycles-self-requires-clause-taken
run_cycles-self-requires-clause-taken c =
    (has_fewer c.args.board.now (session_seen c.args.self.now).now c.args.self.now.journal.items _ _
    c.args.self.now.state.memory c.entries.result c.requires.kept.moments c.in_ok-push.ensures.items
    c.entries.ensures.exact c.entries.ensures.few).taken

pub run_cycles-self-requires-clause-clocks : goal.run_cycles-self-requires-clause-clocks
run_cycles-self-requires-clause-clocks c =
    (has_fewer c.args.board.now (session_seen c.args.self.now).now c.args.self.now.journal.items _ _
    c.args.self.now.state.memory c.entries.result c.requires.kept.moments c.in_ok-push.ensures.items
    c.entries.ensures.exact c.entries.ensures.few).clocks

pub returns-clause-exact : goal.returns-clause-exact
unfolding with_cycle
returns-clause-exact c =
    let s = session_seen c.args.self.now in
    let run = run_at c.run_cycles-self.new.state c.run_cycles-self.new.events.items c.run_cycles-self.result in
    let made = run_made c.args.board.now c.args.store.now.words c.args.env.now s.now run _
    c.in_ok-events.ensures.items c.run_cycles-self.ensures.exact in
    let history = history_with c.args.self.now.journal.items (undo_of s.now.state s.now.clock) _ _
    (cycle_undone c.args.board.now c.args.store.now.words c.args.env.now s.now run made) in
    rw (
      c.in_ok-append_numbered.ensures,
      c.deref.ensures.value,
      c.in_ok-push.ensures.items,
      c.undo-undo.ensures,
      history,
    ) (ap (λ (run : BoardRun). let next : Session = record {
      now = reached run;
      history = s.now ∷ s.history;
      watched = s.watched;
      text = s.text ++ flat_map (numbered_event c.args.line) run.events;
    } in next) made)

pub returns-clause-kept : goal.returns-clause-kept
returns-clause-kept c =
    let s = session_seen c.args.self.now in
    let run = run_at c.run_cycles-self.new.state c.run_cycles-self.new.events.items c.run_cycles-self.result in
    let made = run_made c.args.board.now c.args.store.now.words c.args.env.now s.now run _
    c.in_ok-events.ensures.items c.run_cycles-self.ensures.exact in
    let one = cycle_from c.args.board.now c.args.store.now.words c.args.env.now s.now run made in
    let history = history_with c.args.self.now.journal.items (undo_of s.now.state s.now.clock) _ _
    (cycle_undone c.args.board.now c.args.store.now.words c.args.env.now s.now run made) in
    session_on c.args.board.now s _ c.requires.kept
    (rw (c.in_ok-push.ensures.items, c.undo-undo.ensures) history)
    refl c.run_cycles-self.ensures.fits (omega (arith, one.cycle)) one.taken c.run_cycles-self.ensures.clocks
