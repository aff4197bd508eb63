-- What a run prints.
use Rattle.std.specs.Prelude.{ℕ, List, [], ◌++◌, ◌==◌, codes, if◌then◌else◌}
use Rattle.std.specs.List.{flat_map}
use Rattle.mw_base.specs.Numbers.{decimal}
use Rattle.mw_board.specs.declared.parts.BoardParts.{BoardParts}
use Rattle.mw_cycle.specs.Run.{BoardRun, run_of}
use Rattle.mw_sim.specs.Texts.{event_line, line}
use Rattle.mw_sim.specs.StateText.{state_text}
use Rattle.mw_top.specs.Work.{Prepared}

-- how many clocks a run had, where they aren't as many as its cycles
abbrev pub clocks_line : (cycles clocks : ℕ) → List ℕ
clocks_line cycles clocks = if clocks == cycles then [] else line (codes "clocks " ++ decimal clocks)

-- a run of so many cycles: their number and that of its clocks, the events in order, and the state after them
unfoldable pub run_text : BoardParts → ℕ → BoardRun → List ℕ
run_text board count run =
    line (codes "cycles " ++ decimal count) ++ clocks_line count run.clock.clocks
    ++ flat_map event_line run.events ++ state_text board run.state

-- the text of the run of so many cycles from a start
abbrev pub run_from : Prepared → ℕ → List ℕ
run_from prepared cycles = run_text prepared.program.board cycles
    (run_of prepared.program.board prepared.program.made.store.words prepared.start.env prepared.start.state cycles)
