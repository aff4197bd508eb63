use Rattle.std.proofs.Common.{◌≡◌, ◌-◌, List, drop, length, take}
use Rattle.mw_macro.specs.StepWords.{with_zeros}
use Rattle.mw_term.specs.declared.word.Word.{Word}
use Rattle.mw_term.specs.MemoryRead.{Held}
use Rattle.mw_term.specs.WordList.{list_of}
use Rattle.mw_symmach.specs.Zeros.{HaveZeros}
use Rattle.mw_symmach.proofs.zeros.push_zeros.Given as goal

abbrev pub invariant-loop-element : goal.invariant-loop-element
invariant-loop-element l = record {
  listed : (words : List Word) (reads : List Held)
      → with_zeros (take (l.elements - l.element) (drop l.element l.widths)) l.values.items
      (list_of l.terms.ops words reads)
      ≡ with_zeros (take (l.elements - length l.fn.values.items) (drop (length l.fn.values.items) l.widths))
      l.fn.values.items (list_of l.fn.terms.ops words reads);
  zeros : HaveZeros l.fn.terms l.terms l.widths l.fn.values.items l.values.items (l.element - length l.fn.values.items);
}
