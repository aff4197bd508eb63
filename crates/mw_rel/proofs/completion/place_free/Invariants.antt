use Rattle.std.proofs.Common.{◌≡◌, ℕ, ◌<◌, length, slice_index}
use Rattle.mw_rel.specs.Completed.{free_before, free_value}
use Rattle.mw_rel.specs.Free.{is_free}
use Rattle.mw_rel.specs.Seen.{boundary_of}
use Rattle.mw_rel.proofs.completion.place_free.Given as goal

abbrev pub invariant-loop-number : goal.invariant-loop-number
invariant-loop-number l = record {
  size : length l.places ≡ length l.fn.places;
  before : l.before ≡ free_before (is_free (boundary_of l.at)) l.number;
  placed : (e : ℕ) → e < l.number → slice_index l.places e ≡ free_value (is_free (boundary_of l.at)) l.given e;
}
