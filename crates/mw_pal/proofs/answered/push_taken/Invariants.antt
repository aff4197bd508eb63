use Rattle.std.proofs.Common.{◌≡◌, ◌++◌, map, slice_index}
use Rattle.mw_cycle.specs.Boundary.{numbers}
use Rattle.mw_pal.proofs.answered.push_taken.Given as goal

abbrev pub invariant-loop-number : goal.invariant-loop-number
invariant-loop-number l = l.inputs.items ≡ l.fn.inputs.items ++ map (slice_index l.answer) (numbers 0 l.number)
