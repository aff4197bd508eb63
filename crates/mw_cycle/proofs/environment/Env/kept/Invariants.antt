use Rattle.std.proofs.Common.{◌≡◌, ℕ, ◌<◌, ◌≤◌, length, slice_index}
use Rattle.mw_cycle.specs.Environment.{values_of}
use Rattle.mw_cycle.proofs.environment.Env.kept.Given as goal

abbrev pub invariant-loop-kept : goal.invariant-loop-kept
invariant-loop-kept l = record {
  within : l.kept ≤ length (values_of l.self l.series);
  rest : (i : ℕ) → l.kept ≤ i → i < length (values_of l.self l.series) → slice_index (values_of l.self l.series) i ≡ 0;
}

abbrev pub decreases-loop-kept : goal.decreases-loop-kept
decreases-loop-kept l = l.kept
