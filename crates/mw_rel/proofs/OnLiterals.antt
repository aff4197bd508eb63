-- What an answer unfolds, beside cycles and runs, to compute what starts of the worked jobs show.
use Rattle.std.specs.Prelude.{⊤}
use Rattle.mw_board.specs.Elements.{elements_of}
use Rattle.mw_board.specs.Examples.{small_fields, small_points, small_board}
use Rattle.mw_cycle.specs.Decided.{decided_of}
use Rattle.mw_cycle.specs.SteadyDecided.{bits_of_cycles}
use Rattle.mw_cycle.specs.Elements.{element_of}
use Rattle.mw_macro.specs.Branches.{branches_of}
use Rattle.mw_macro.specs.DescribedStep.{step_of}
use Rattle.mw_rel.specs.SteadyCase.{case_of}
use Rattle.mw_rel.specs.Differs.{first_difference}
use Rattle.mw_rel.specs.SteadyDiffers.{difference_of}
use Rattle.mw_rel.specs.Examples.{machine_with}
use Rattle.mw_rel.specs.Job.{shape_of}

unfoldable pub start_on_literals : ⊤
unfolding elements_of element_of step_of first_difference difference_of small_fields small_points small_board
    machine_with shape_of
start_on_literals = tt

-- And to compute what they decide.
unfoldable pub case_on_literals : ⊤
unfolding decided_of branches_of bits_of_cycles case_of
case_on_literals = tt
