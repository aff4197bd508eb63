use Rattle.std.proofs.Common.{◌≡◌, drop}
use Rattle.mw_base.specs.Named.{names_seen}
use Rattle.mw_base.specs.Steps.{steps}
use Rattle.mw_debug.specs.Kept.{IsReading}
use Rattle.mw_debug.specs.Script.{nothing_read, with_line}
use Rattle.mw_debug.specs.Views.{reading_seen}
use Rattle.mw_debug.proofs.reading.reading_of.Given as goal

abbrev pub invariant-loop-line : goal.invariant-loop-line
invariant-loop-line l = record {
  so_far : steps (with_line l.board (names_seen l.labels) l.text) (reading_seen l.reading) (drop l.line-index l.lines)
      ≡ steps (with_line l.board (names_seen l.labels) l.text) nothing_read l.lines;
  kept : IsReading l.board (reading_seen l.reading);
}
