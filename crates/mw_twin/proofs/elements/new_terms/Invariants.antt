use Rattle.std.proofs.Common.{◌≡◌, ◌+◌, drop}
use Rattle.mw_board.specs.Elements.{element_count}
use Rattle.mw_revise.specs.TwinStartWords.{all_element_words, widths_of}
use Rattle.mw_space.specs.Spaces.{list_of_space}
use Rattle.mw_twin.specs.ElementTerms.{AreMade, IsNew, WentOn}
use Rattle.mw_twin.specs.ElementWords.{all_ended, new_maker, with_elements}
use Rattle.mw_twin.proofs.elements.new_terms.Given as goal

abbrev pub invariant-loop-number : goal.invariant-loop-number
invariant-loop-number l = record {
  so_far : AreMade l.board (IsNew l.board l.block.lines l.before) l.number (element_count l.board + l.number) l.space l.after.items;
  on : WentOn l.fn.space l.space;
  listed : all_element_words (new_maker l.board l.block.lines l.before) 0 (widths_of l.board) (list_of_space l.fn.space)
      ≡ with_elements (new_maker l.board l.block.lines l.before) l.number (drop l.number (widths_of l.board)) (all_ended l.after.items (list_of_space l.space));
}
