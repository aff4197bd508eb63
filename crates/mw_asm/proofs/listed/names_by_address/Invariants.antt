use Rattle.std.proofs.Common.{◌≡◌, ℕ, ◌<◌, [], length, get_or, take}
use Rattle.mw_asm.specs.Listing.{labels_at, names_of}
use Rattle.mw_asm.proofs.listed.names_by_address.Given as goal

abbrev pub invariant-loop-label : goal.invariant-loop-label
invariant-loop-label l = record {
  len : length l.names.items ≡ l.count;
  each : (at : ℕ) → at < l.count → get_or l.names.items at [] ≡ names_of (labels_at at (take l.label-index l.labels));
}
