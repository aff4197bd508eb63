use Rattle.std.proofs.Common.{◌≡◌, [], take, drop}
use Rattle.mw_board.specs.Check.{flipflops_from}
use Rattle.mw_board.proofs.check.check_each_flipflop.Given as goal

abbrev pub invariant-loop-i : goal.invariant-loop-i
invariant-loop-i l =
    flipflops_from l.parts (take l.i l.flipflops) l.i (drop l.i l.flipflops)
    ≡ flipflops_from l.parts [] 0 l.flipflops
