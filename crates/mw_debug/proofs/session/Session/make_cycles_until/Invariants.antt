use Rattle.std.proofs.Common.{◌≡◌}
use Rattle.mw_debug.specs.Kept.{IsSession}
use Rattle.mw_debug.specs.Session.{address_after, with_cycles}
use Rattle.mw_debug.specs.Views.{session_seen}
use Rattle.mw_debug.proofs.Until.{IsLeft}
use Rattle.mw_debug.proofs.session.Session.make_cycles_until.Given as goal

-- so many cycles were made, and none of them ended at the address
abbrev pub invariant-cycles : goal.invariant-cycles
invariant-cycles l =
    let first = session_seen l.fn.self in
    record {
      so_far : session_seen l.self ≡ with_cycles l.board l.store.words l.env l.line first l.counter;
      left : IsLeft (address_after l.board l.store.words l.env l.line first) l.address l.limit l.counter;
      kept : IsSession l.board (session_seen l.self);
    }
