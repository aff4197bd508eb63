use Rattle.std.proofs.Common.{ℕ, ◌<◌, ◌^◌, slice_index}
use Rattle.mw_callrows.proofs.calls.expressions.are_words.Given as goal

abbrev pub invariant-loop-i : goal.invariant-loop-i
invariant-loop-i l = (k : ℕ) → k < l.i → slice_index l.numbers k < 2 ^ slice_index l.widths k
