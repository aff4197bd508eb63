use Rattle.std.proofs.Common.{◌≡◌, ◌+◌, ◌*◌, ◌^◌, ◌<◌, drop}
use Rattle.mw_cycle.specs.Cycle.{flips_from, flips_after}
use Rattle.mw_cycle.proofs.flipflops.flips_after.Given as goal

abbrev pub invariant-loop-n : goal.invariant-loop-n
invariant-loop-n l = record {
  below : l.flips < 2 ^ l.n;
  so_far : l.flips + 2 ^ l.n * flips_from l.board l.microword l.answer l.state l.given l.n (drop l.n l.flipflops)
      ≡ flips_after l.board l.microword l.answer l.state l.given;
}
