use Rattle.mw_blast.specs.Entries.{bits_at, IsLeftAt}
use Rattle.mw_blast.proofs.entry.entry_bit.Given as goal

abbrev pub invariant-loop-chosen : goal.invariant-loop-chosen
invariant-loop-chosen l = IsLeftAt l.initial.dds l.dds l.index (bits_at l.place l.map) l.chosen-index l.left.items
