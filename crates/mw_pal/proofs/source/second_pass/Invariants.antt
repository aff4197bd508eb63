use Rattle.std.proofs.Common.{◌≡◌, drop}
use Rattle.mw_base.specs.Named.{names_seen}
use Rattle.mw_pal.specs.Source.{second_pass, IsMemory}
use Rattle.mw_pal.proofs.source.second_pass.Given as goal

abbrev pub invariant-loop-cell : goal.invariant-loop-cell
invariant-loop-cell l = record {
  puts : second_pass l.text (names_seen l.labels) l.memory.items (drop l.cell-index l.cells)
      ≡ second_pass l.text (names_seen l.labels) l.initial.memory.items l.cells;
  valid : IsMemory l.memory.items;
}
