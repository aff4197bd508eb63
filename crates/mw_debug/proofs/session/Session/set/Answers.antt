use Rattle.std.proofs.Common.{inl, refl, arith}
use Rattle.mw_debug.specs.Views.{session_seen, undo_of}
use Rattle.mw_debug.proofs.Moments.{history_with, session_on, set_undone}
use Rattle.mw_debug.proofs.session.Session.set.Goals as goal

pub returns-clause-exact : goal.returns-clause-exact
returns-clause-exact c =
    let s = c.args.self.now.state in
    let clock = c.args.self.now.clock in
    let history = history_with c.args.self.now.journal.items (undo_of s clock) _ _
    (set_undone c.args.board.now s clock c.args.number c.args.value) in
    rw (c.set_value.ensures.exact, c.in_ok-push.ensures.items, c.undo-undo.ensures, history) refl

pub returns-clause-kept : goal.returns-clause-kept
returns-clause-kept c =
    let s = c.args.self.now.state in
    let clock = c.args.self.now.clock in
    let history = history_with c.args.self.now.journal.items (undo_of s clock) _ _
    (set_undone c.args.board.now s clock c.args.number c.args.value) in
    session_on c.args.board.now (session_seen c.args.self.now) _ c.requires.kept
    (rw (c.set_value.ensures.exact, c.in_ok-push.ensures.items, c.undo-undo.ensures) history)
    refl c.set_value.ensures.fits (omega arith) (omega arith) (inl (omega arith))
