-- What an answer unfolds, beside cycles and runs with waits, to compute what twin starts show.
use Rattle.std.specs.Prelude.{⊤}
use Rattle.mw_base.specs.Names.{is_name}
use Rattle.mw_board.specs.Check.{check_of, each_from, fields_check, flipflop_check, flipflops_check, flipflops_from}
use Rattle.mw_board.specs.Check.{list_check, lists_check, map_check, points_check, sizes_check}
use Rattle.mw_board.specs.Depth.{depth_of}
use Rattle.mw_board.specs.Elements.{elements_of}
use Rattle.mw_board.specs.Rules.{address_rule, bit_rule, carry_in_rule, chosen_rule, control_rule, d_source_rule}
use Rattle.mw_board.specs.Rules.{field_rule, fields_rule, flipflop_name_rule, flipflops_rule, list_rule, load_rule}
use Rattle.mw_board.specs.Rules.{map_bits_rule, map_entries_rule, map_entry_rule, mask_rule, microword_rule, name_rule}
use Rattle.mw_board.specs.Rules.{point_rule, source_rule, stack_rule, vector_rule, width_rule, word_rule}
use Rattle.mw_cycle.specs.CycleWords.{cycle_words}
use Rattle.mw_cycle.specs.Decided.{decided_of}
use Rattle.mw_cycle.specs.EdgeWords.{edge_words}
use Rattle.mw_cycle.specs.Elements.{element_of}
use Rattle.mw_cycle.specs.Boundary.{first_segment}
use Rattle.mw_cycle.specs.LeavingWords.{leaving_words}
use Rattle.mw_cycle.specs.ReadingWords.{reading_words}
use Rattle.mw_revise.specs.Examples.{speaking_board}
use Rattle.mw_cycle.specs.SegmentWords.{segment_words}
use Rattle.mw_revise.specs.TwinCase.{bits_of_cycles, twin_case}
use Rattle.mw_revise.specs.TwinComparisonWords.{twin_comparison_words}
use Rattle.mw_revise.specs.TwinDiffers.{difference_at, twin_difference}
use Rattle.mw_revise.specs.TwinStartWords.{twin_start_words}
use Rattle.mw_revise.specs.TwinWords.{twin_words_along}
use Rattle.mw_term.specs.WordList.{memory_read_words}

unfoldable pub revisions_on_literals : ⊤
unfolding element_of first_segment speaking_board difference_at twin_difference
revisions_on_literals = tt

-- And to compute what they decide.
unfoldable pub twin_cases_on_literals : ⊤
unfolding decided_of bits_of_cycles twin_case
twin_cases_on_literals = tt

-- And to compute their words.
unfoldable pub words_on_literals : ⊤
unfolding elements_of reading_words leaving_words edge_words cycle_words memory_read_words twin_start_words
    segment_words twin_comparison_words twin_words_along
words_on_literals = tt

-- And to compute that a board keeps its rules.
unfoldable pub rules_on_literals : ⊤
unfolding width_rule microword_rule address_rule word_rule vector_rule stack_rule fields_rule name_rule field_rule
    flipflops_rule flipflop_name_rule control_rule point_rule chosen_rule list_rule bit_rule carry_in_rule load_rule
    source_rule mask_rule d_source_rule map_bits_rule map_entry_rule map_entries_rule each_from list_check sizes_check
    fields_check flipflop_check flipflops_from flipflops_check points_check lists_check map_check check_of depth_of
    is_name
rules_on_literals = tt
