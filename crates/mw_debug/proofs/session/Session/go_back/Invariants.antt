use Rattle.std.proofs.Common.{◌≡◌}
use Rattle.mw_debug.specs.Kept.{IsSession}
use Rattle.mw_debug.specs.Views.{session_seen}
use Rattle.mw_debug.proofs.Back.{IsBack}
use Rattle.mw_debug.proofs.session.Session.go_back.Given as goal

-- so many entries were undone
abbrev pub invariant-entries : goal.invariant-entries
invariant-entries l = record {
  so_far : IsBack (session_seen l.fn.self) l.counter (session_seen l.self);
  watched : l.self.watched.items ≡ l.fn.self.watched.items;
  text : l.self.text.items ≡ l.fn.self.text.items;
  kept : IsSession l.board (session_seen l.self);
}
