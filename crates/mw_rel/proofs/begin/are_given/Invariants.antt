use Rattle.std.proofs.Common.{◌≡◌, ℕ, ◌<◌, slice_index}
use Rattle.mw_rel.specs.Completed.{free_before, IsGiven}
use Rattle.mw_rel.specs.Free.{is_free}
use Rattle.mw_rel.specs.Seen.{boundary_of}
use Rattle.mw_rel.proofs.begin.are_given.Given as goal

abbrev pub invariant-loop-number : goal.invariant-loop-number
invariant-loop-number l = record {
  before : l.before ≡ free_before (is_free (boundary_of l.at)) l.number;
  each : (e : ℕ) → e < l.number → IsGiven (is_free (boundary_of l.at)) l.given (slice_index l.widths e) e;
}
