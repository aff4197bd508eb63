use Rattle.std.proofs.Common.{◌≡◌, ℕ, ◌<◌, ◌^◌, length, slice_index}
use Rattle.mw_rel.specs.Completed.{value_by}
use Rattle.mw_rel.specs.Seen.{lines_of}
use Rattle.mw_rel.specs.Views.{job_of}
use Rattle.mw_rel.proofs.completion.place_all.Given as goal

abbrev pub invariant-loop-number : goal.invariant-loop-number
invariant-loop-number l = record {
  size : length l.values ≡ length l.free;
  each : (e : ℕ) → e < l.number
      → slice_index l.values e ≡ value_by (job_of l.job).relation.shape l.free l.memory (lines_of l.lines) e;
  below : (e : ℕ) → e < l.number → slice_index l.values e < 2 ^ slice_index (job_of l.job).relation.shape.widths e;
}
