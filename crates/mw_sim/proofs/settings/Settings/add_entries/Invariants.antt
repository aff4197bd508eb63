use Rattle.std.proofs.Common.{◌≡◌, drop}
use Rattle.mw_base.specs.Steps.{steps}
use Rattle.mw_sim.specs.Settings.{with_entry}
use Rattle.mw_sim.specs.Views.{given_seen}
use Rattle.mw_sim.proofs.settings.Settings.add_entries.Given as goal

abbrev pub invariant-loop-entry : goal.invariant-loop-entry
invariant-loop-entry l =
    steps (with_entry l.board.width l.series) (given_seen l.self) (drop l.entry-index l.entries)
    ≡ steps (with_entry l.board.width l.series) (given_seen l.fn.self) l.entries
