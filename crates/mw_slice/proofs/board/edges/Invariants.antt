use Rattle.std.proofs.Common.{◌≡◌, ◌*◌, ◌^◌, ◌<◌}
use Rattle.mw_alu.specs.WholeWord.{b_of, q_of}
use Rattle.mw_slice.specs.Board.{nibble, joined, pins_at}
use Rattle.mw_slice.proofs.board.edges.Given as goal

abbrev pub invariant-loop-k : goal.invariant-loop-k
invariant-loop-k l = record {
  b : l.next_b ≡ joined (λ k. b_of l.destination 4 (nibble k l.f) (pins_at l.slices l.f l.q l.pins k)) l.k;
  b_below : l.next_b < 2 ^ (4 * l.k);
  q : l.next_q
      ≡ joined (λ k. q_of l.destination 4 (nibble k l.f) (nibble k l.q) (pins_at l.slices l.f l.q l.pins k)) l.k;
  q_below : l.next_q < 2 ^ (4 * l.k);
}
