use Rattle.std.proofs.Common.{◌≡◌, ℕ, ◌<◌, length, slice_index}
use Rattle.mw_cases.specs.Words.{IsWordAt}
use Rattle.mw_cases.proofs.store.store.Given as goal

abbrev pub invariant-loop-address : goal.invariant-loop-address
invariant-loop-address l = record {
  count : length l.words.items ≡ l.address;
  words : (address : ℕ) → address < l.address
      → IsWordAt l.instructions.number address (slice_index l.words.items address);
}
