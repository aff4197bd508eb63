use Rattle.std.proofs.Common.{◌≡◌, drop}
use Rattle.std.specs.List.{list_any}
use Rattle.mw_cycle.specs.Cycle.{load_of}
use Rattle.mw_cycle.specs.ReadingWords.{load_reads}
use Rattle.mw_symboard.proofs.reading.flipflop_reads.Given as goal

abbrev pub invariant-loop-flipflop : goal.invariant-loop-flipflop
invariant-loop-flipflop l =
    list_any (λ f. load_reads (load_of l.board l.microword f) l.bit) (drop l.flipflop-index l.board.flipflop)
    ≡ list_any (λ f. load_reads (load_of l.board l.microword f) l.bit) l.board.flipflop
