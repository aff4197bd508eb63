use Rattle.std.proofs.Common.{◌≡◌, ℕ, ◌<◌, length, slice_index}
use Rattle.mw_rel.specs.Start.{addresses_of}
use Rattle.mw_rel.specs.Views.{job_of}
use Rattle.mw_replay.proofs.reached.copy_addresses.Given as goal

abbrev pub invariant-loop-n : goal.invariant-loop-n
invariant-loop-n l = record {
  places : length l.addresses ≡ length (job_of l.job).relation.boundaries;
  so_far : (i : ℕ) → i < l.n → slice_index l.addresses i ≡ slice_index (addresses_of (job_of l.job)) i;
}
