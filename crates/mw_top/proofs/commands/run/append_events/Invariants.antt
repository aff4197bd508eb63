use Rattle.std.proofs.Common.{◌≡◌, ◌++◌, take}
use Rattle.std.specs.List.{flat_map}
use Rattle.mw_sim.specs.Texts.{event_line}
use Rattle.mw_top.proofs.commands.run.append_events.Given as goal

abbrev pub invariant-loop-event : goal.invariant-loop-event
invariant-loop-event l = l.report.items ≡ l.fn.report.items ++ flat_map event_line (take l.event-index l.events)
