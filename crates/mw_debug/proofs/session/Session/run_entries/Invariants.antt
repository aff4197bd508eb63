use Rattle.std.proofs.Common.{◌≡◌, drop}
use Rattle.mw_base.specs.Steps.{steps}
use Rattle.mw_debug.specs.Kept.{IsSession}
use Rattle.mw_debug.specs.Trace.{with_entry}
use Rattle.mw_debug.specs.Views.{session_seen}
use Rattle.mw_debug.proofs.session.Session.run_entries.Given as goal

abbrev pub invariant-loop-entry : goal.invariant-loop-entry
invariant-loop-entry l = record {
  so_far : steps (with_entry l.board l.store.words l.env) (session_seen l.self) (drop l.entry-index l.entries)
      ≡ steps (with_entry l.board l.store.words l.env) (session_seen l.fn.self) l.entries;
  kept : IsSession l.board (session_seen l.self);
}
