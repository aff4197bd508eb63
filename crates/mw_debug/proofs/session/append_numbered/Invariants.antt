use Rattle.std.proofs.Common.{◌≡◌, ◌++◌, take}
use Rattle.std.specs.List.{flat_map}
use Rattle.mw_debug.specs.Session.{numbered_event}
use Rattle.mw_debug.proofs.session.append_numbered.Given as goal

abbrev pub invariant-loop-event : goal.invariant-loop-event
invariant-loop-event l =
    l.text.items ≡ l.fn.text.items ++ flat_map (numbered_event l.line) (take l.event-index l.events)
