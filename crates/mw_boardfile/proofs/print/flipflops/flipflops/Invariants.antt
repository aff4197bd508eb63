use Rattle.std.proofs.Common.{◌≡◌, map, take}
use Rattle.toml.specs.View.{view}
use Rattle.mw_boardfile.specs.Printed.{flipflop_printed}
use Rattle.mw_boardfile.proofs.print.flipflops.flipflops.Given as goal

abbrev pub invariant-loop-flipflop : goal.invariant-loop-flipflop
invariant-loop-flipflop l =
    map view l.values.items ≡ map (flipflop_printed l.fields l.flipflops) (take l.flipflop-index l.flipflops)
