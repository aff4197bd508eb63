use Rattle.std.proofs.Common.{◌≡◌, ◌≤◌, [], length, drop}
use Rattle.mw_boardfile.specs.FlipFlops.{each_flipflop}
use Rattle.mw_boardfile.specs.Kept.{FlipFlopsKeep}
use Rattle.mw_boardfile.specs.Views.{data_of}
use Rattle.mw_boardfile.proofs.flipflops.flipflops.Given as goal

abbrev pub invariant-loop-n : goal.invariant-loop-n
invariant-loop-n l =
    (each_flipflop l.sizes l.fields (data_of l.flipflops) l.done.items l.n (data_of (drop l.n l.flipflops))
    ≡ each_flipflop l.sizes l.fields (data_of l.flipflops) [] 0 (data_of l.flipflops))
    × (length l.done.items ≡ l.n)
    × (l.n ≤ length l.flipflops)
    × FlipFlopsKeep l.sizes l.fields (length l.flipflops) l.done.items
