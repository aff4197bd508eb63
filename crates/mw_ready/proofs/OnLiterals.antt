-- What an answer unfolds, beside cycles, to compute runs with waits on literals.
use Rattle.std.specs.Prelude.{⊤}
use Rattle.mw_board.specs.Examples.{small_fields, small_points, small_board}
use Rattle.mw_ready.specs.Examples.{memory_board, masked_board, mixed_board, taking_board, writing_board}
use Rattle.mw_cycle.specs.Run.{with_clock, run_of_clocks}

unfoldable pub waits_on_literals : ⊤
unfolding small_fields small_points small_board memory_board masked_board mixed_board taking_board writing_board
    with_clock run_of_clocks
waits_on_literals = tt
