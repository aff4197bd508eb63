use Rattle.mw_dd.specs.Kept.{Stay}
use Rattle.mw_dd.proofs.kept.Kept.grown.Given as goal

abbrev pub invariant-loop-place : goal.invariant-loop-place
invariant-loop-place l = Stay l.self-inside.slots.items l.grown
