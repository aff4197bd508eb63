use Rattle.std.proofs.Common.{◌≡◌, ◌++◌, List, drop, take}
use Rattle.mw_term.specs.MemoryRead.{Held}
use Rattle.mw_term.specs.WordList.{list_of, with_same}
use Rattle.mw_symmem.specs.Steps.{Grows, AreSame}
use Rattle.mw_symmem.proofs.read.same.Given as goal

abbrev pub invariant-loop-read : goal.invariant-loop-read
invariant-loop-read l = record {
  grows : Grows l.fn.terms l.terms l.fn.words l.words l.same.items;
  are : AreSame l.terms l.address (take l.read-index l.reads) l.same.items;
  listed : (reads : List Held)
      → ((with_same l.address (drop l.read-index l.reads) (list_of l.terms.ops l.words reads)).list
      ≡ (with_same l.address l.reads (list_of l.fn.terms.ops l.fn.words reads)).list)
      × (l.same.items ++ (with_same l.address (drop l.read-index l.reads) (list_of l.terms.ops l.words reads)).terms
      ≡ (with_same l.address l.reads (list_of l.fn.terms.ops l.fn.words reads)).terms);
}
