use Rattle.std.proofs.Common.{◌≡◌, ◌++◌, map, take, drop}
use Rattle.mw_expr.specs.Tree.{view, trees_of}
use Rattle.mw_macro.specs.ExpressionWords.{words_of_parts}
use Rattle.mw_symmem.specs.Listed.{list_in}
use Rattle.mw_symmem.specs.Memory.{writes_of}
use Rattle.mw_symmach.specs.Expressions.{AreReady, AreMade, shape_over}
use Rattle.mw_symmach.proofs.expression.+expressions.Given as goal

abbrev pub invariant-part_terms-loop-part : goal.invariant-part_terms-loop-part
invariant-part_terms-loop-part l = record {
  made : AreMade l.fn.terms l.terms l.fn.words l.words l.fn.memory l.memory l.elements l.side
      (trees_of (map view (take l.part-index l.parts))) l.made.items;
  listed : ((words_of_parts (shape_over l.fn.terms l.elements l.fn.memory) l.elements (writes_of l.fn.memory l.side)
      (trees_of (map view (drop l.part-index l.parts))) (list_in l.terms l.words l.memory)).list
      ≡ (words_of_parts (shape_over l.fn.terms l.elements l.fn.memory) l.elements (writes_of l.fn.memory l.side)
      (trees_of (map view l.parts)) (list_in l.fn.terms l.fn.words l.fn.memory)).list)
      × (l.made.items
      ++ (words_of_parts (shape_over l.fn.terms l.elements l.fn.memory) l.elements (writes_of l.fn.memory l.side)
      (trees_of (map view (drop l.part-index l.parts))) (list_in l.terms l.words l.memory)).terms
      ≡ (words_of_parts (shape_over l.fn.terms l.elements l.fn.memory) l.elements (writes_of l.fn.memory l.side)
      (trees_of (map view l.parts)) (list_in l.fn.terms l.fn.words l.fn.memory)).terms);
  left : AreReady l.terms l.words l.memory l.elements (trees_of (map view (drop l.part-index l.parts)));
}
