use Rattle.std.proofs.Common.{◌≡◌}
use Rattle.mw_debug.specs.Kept.{IsSession}
use Rattle.mw_debug.specs.Session.{with_cycles}
use Rattle.mw_debug.specs.Views.{session_seen}
use Rattle.mw_debug.proofs.session.Session.make_cycles.Given as goal

abbrev pub invariant-cycles : goal.invariant-cycles
invariant-cycles l = record {
  so_far : session_seen l.self
      ≡ with_cycles l.board l.store.words l.env l.line (session_seen l.fn.self) l.counter;
  kept : IsSession l.board (session_seen l.self);
}
