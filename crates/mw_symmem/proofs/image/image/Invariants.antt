use Rattle.std.proofs.Common.{◌≡◌, ◌≤◌, ◌^◌, ℕ, length, drop, slice_index}
use Rattle.mw_term.specs.Assigned.{given_by}
use Rattle.mw_symmem.specs.Memory.{base_word}
use Rattle.mw_symmem.proofs.image.image.Given as goal

abbrev pub invariant-loop-place : goal.invariant-loop-place
invariant-loop-place l = record {
  within : l.place ≤ length l.reads;
  size : length l.image.items ≡ 2 ^ l.fn.width;
  words : (address : ℕ) → slice_index l.image.items address
      ≡ base_word l.terms (given_by l.given) (drop l.place l.reads) address;
}

abbrev pub decreases-loop-place : goal.decreases-loop-place
decreases-loop-place l = l.place
