use Rattle.std.proofs.Common.{◌≡◌, ◌*◌, ◌^◌, ◌<◌}
use Rattle.mw_slice.specs.Lookahead.{line}
use Rattle.mw_slice.specs.Board.{joined, wired_and}
use Rattle.mw_slice.specs.Signals.{slice_on}
use Rattle.mw_slice.proofs.board.Board.words.Given as goal

abbrev pub invariant-loop-k : goal.invariant-loop-k
invariant-loop-k l = record {
  f : l.f ≡ joined (λ k. (slice_on l.self k (line l.into k)).f) l.k;
  f_below : l.f < 2 ^ (4 * l.k);
  y : l.y ≡ joined (λ k. (slice_on l.self k (line l.into k)).y) l.k;
  y_below : l.y < 2 ^ (4 * l.k);
  zero : l.zero ≡ wired_and (λ k. (slice_on l.self k (line l.into k)).zero) l.k;
}
