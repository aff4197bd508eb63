-- What an answer unfolds to compute cycles and runs on literals.
use Rattle.std.specs.Prelude.{⊤}
use Rattle.mw_alu.specs.Instruction.{source_of, function_of, destination_of}
use Rattle.mw_alu.specs.WholeWord.{f_of, carry_of, overflow_of, alu_of, shift_of}
use Rattle.mw_seq.specs.Instruction.{instruction_of}
use Rattle.mw_seq.specs.Sequencer.{top, pushed, stack_after, next_of, step_of}
use Rattle.mw_board.specs.Depth.{depth_of}
use Rattle.mw_cycle.specs.Microword.{points_of}
use Rattle.mw_cycle.specs.Cycle.{from_source, early_bit, bit_value, operands_of, answer_of, pass_of, direct_address}
use Rattle.mw_cycle.specs.Cycle.{next_address, pins_of, writes_of, flips_from, edge, state_after, nets_of}
use Rattle.mw_cycle.specs.SteadyRun.{longer_run, run_of}
use Rattle.mw_cycle.specs.SteadyBoundary.{first_segment}

unfoldable pub cycle_on_literals : ⊤
unfolding depth_of from_source early_bit bit_value flips_from source_of function_of destination_of f_of carry_of
    overflow_of alu_of shift_of instruction_of top pushed stack_after next_of step_of points_of operands_of answer_of
    pass_of direct_address next_address pins_of writes_of edge state_after nets_of longer_run run_of first_segment
cycle_on_literals = tt
