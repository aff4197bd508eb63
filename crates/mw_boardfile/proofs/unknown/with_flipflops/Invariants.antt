use Rattle.std.proofs.Common.{◌≡◌, drop}
use Rattle.mw_boardfile.specs.Unknown.{with_flipflops}
use Rattle.mw_boardfile.specs.Views.{data_of}
use Rattle.mw_boardfile.proofs.unknown.with_flipflops.Given as goal

abbrev pub invariant-flipflops : goal.invariant-flipflops
invariant-flipflops l =
    with_flipflops l.n (data_of (drop l.n l.flipflops)) l.least ≡ with_flipflops 0 (data_of l.flipflops) l.initial.least
