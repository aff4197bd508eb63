use Rattle.std.proofs.Common.{◌≡◌, ℕ, ◌<◌, ◌^◌, List, Bool, take}
use Rattle.mw_top.specs.PrefixText.{binary_number}
use Rattle.mw_top.proofs.prefix_text.binary_number.Given as goal

-- the number of the bits so far, which is below two to the power of their count
pub record Counted (number index : ℕ) (bits : List Bool) : Type 0 where
  pub is : number ≡ binary_number (take index bits)
  pub below : number < 2 ^ index

abbrev pub invariant-loop-bit : goal.invariant-loop-bit
invariant-loop-bit l = Counted l.number l.bit-index l.bits
