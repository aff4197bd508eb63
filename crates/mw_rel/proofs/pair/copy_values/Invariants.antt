use Rattle.std.proofs.Common.{◌≡◌, ℕ, ◌+◌, ◌<◌, length, slice_index}
use Rattle.mw_board.specs.Elements.{element_count}
use Rattle.mw_rel.specs.InRelation.{values_in}
use Rattle.mw_rel.proofs.pair.copy_values.Given as goal

abbrev pub invariant-loop-number : goal.invariant-loop-number
invariant-loop-number l = record {
  places : length l.values ≡ element_count l.board + length l.registers;
  so_far : (i : ℕ) → i < l.number → slice_index l.values i ≡ slice_index (values_in l.board l.state l.registers) i;
}

abbrev pub invariant-loop-number-2 : goal.invariant-loop-number-2
invariant-loop-number-2 l = record {
  places : length l.values ≡ element_count l.board + length l.registers;
  so_far : (i : ℕ) → i < element_count l.board + l.number
      → slice_index l.values i ≡ slice_index (values_in l.board l.state l.registers) i;
}
