use Rattle.std.proofs.Common.{◌≡◌, length}
use Rattle.mw_symmem.specs.Words.{AreOf}
use Rattle.mw_symmem.specs.Workspace.{IsLater}
use Rattle.mw_symrows.specs.Runs.{AreFree, AreSoFar}
use Rattle.mw_symrows.proofs.workspace.make_elements.Given as goal

abbrev pub invariant-loop-number : goal.invariant-loop-number
invariant-loop-number l = record {
  count : length l.elements.items ≡ l.number;
  so_far : AreSoFar l.board l.terms l.number l.elements.items;
  later : IsLater l.fn.terms l.terms;
  of : AreOf l.terms l.words;
  free : AreFree l.words;
}
