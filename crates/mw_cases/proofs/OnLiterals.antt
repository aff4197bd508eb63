-- What an answer unfolds to compute on the board of every job, and on its machine but for the operations.
use Rattle.std.specs.Prelude.{⊤}
use Rattle.mw_base.specs.Names.{is_name}
use Rattle.mw_board.specs.Check.{each_from, list_check, sizes_check, fields_check, flipflop_check, flipflops_from}
use Rattle.mw_board.specs.Check.{flipflops_check, points_check, lists_check, map_check, check_of}
use Rattle.mw_board.specs.Rules.{width_rule, microword_rule, address_rule, word_rule, vector_rule, stack_rule}
use Rattle.mw_board.specs.Rules.{fields_rule, name_rule, field_rule, flipflops_rule, flipflop_name_rule, control_rule, point_rule}
use Rattle.mw_board.specs.Rules.{chosen_rule, list_rule, bit_rule, carry_in_rule, load_rule, source_rule, mask_rule}
use Rattle.mw_board.specs.Rules.{d_source_rule, map_bits_rule, map_entry_rule, map_entries_rule}
use Rattle.mw_board.specs.Depth.{depth_of}
use Rattle.mw_board.specs.Elements.{elements_of}
use Rattle.mw_expr.specs.Widths.{width_of}
use Rattle.mw_rel.specs.Job.{shape_of}
use Rattle.mw_rel.specs.Rules.{refusal_of}
use Rattle.mw_cases.specs.Board.{generated_fields, generated_map, generated_board}
use Rattle.mw_cases.specs.Described.{generated_machine}

unfoldable pub board_on_literals : ⊤
unfolding is_name each_from list_check sizes_check fields_check flipflop_check flipflops_from flipflops_check
    points_check lists_check map_check check_of width_rule microword_rule address_rule word_rule vector_rule
    stack_rule depth_of fields_rule name_rule field_rule flipflops_rule flipflop_name_rule control_rule point_rule chosen_rule list_rule
    bit_rule carry_in_rule load_rule source_rule mask_rule d_source_rule map_bits_rule map_entry_rule map_entries_rule
    generated_fields generated_map generated_board
board_on_literals = tt

unfoldable pub relation_on_literals : ⊤
unfolding depth_of elements_of width_of shape_of refusal_of generated_fields generated_board generated_machine
relation_on_literals = tt
