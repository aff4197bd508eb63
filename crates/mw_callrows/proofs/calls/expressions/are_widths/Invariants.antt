use Rattle.std.proofs.Common.{ℕ, ◌<◌, ◌≤◌, slice_index}
use Rattle.mw_callrows.proofs.calls.expressions.are_widths.Given as goal

abbrev pub invariant-loop-width : goal.invariant-loop-width
invariant-loop-width l = (i : ℕ) → i < l.width-index → (1 ≤ slice_index l.widths i) × (slice_index l.widths i ≤ 32)
