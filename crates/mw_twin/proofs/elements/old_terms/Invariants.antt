use Rattle.std.proofs.Common.{◌≡◌, drop}
use Rattle.mw_revise.specs.TwinStartWords.{all_element_words, widths_of}
use Rattle.mw_space.specs.Spaces.{list_of_space}
use Rattle.mw_twin.specs.ElementTerms.{AreMade, IsOld, WentOn}
use Rattle.mw_twin.specs.ElementWords.{all_ended, old_maker, with_elements}
use Rattle.mw_twin.proofs.elements.old_terms.Given as goal

abbrev pub invariant-loop-number : goal.invariant-loop-number
invariant-loop-number l = record {
  so_far : AreMade l.board (IsOld l.block.lines) l.number l.number l.space l.before.items;
  on : WentOn l.fn.space l.space;
  listed : all_element_words (old_maker l.block.lines) 0 (widths_of l.board) (list_of_space l.fn.space)
      ≡ with_elements (old_maker l.block.lines) l.number (drop l.number (widths_of l.board)) (all_ended l.before.items (list_of_space l.space));
}
