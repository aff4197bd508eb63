use Rattle.std.proofs.Common.{◌≡◌, take}
use Rattle.mw_asm.specs.Labels.{label_named}
use Rattle.mw_base.specs.Named.{names_seen}
use Rattle.mw_debug.proofs.labels.names_of.Given as goal

abbrev pub invariant-loop-label : goal.invariant-loop-label
invariant-loop-label l = names_seen l.names ≡ label_named (take l.label-index l.labels)
