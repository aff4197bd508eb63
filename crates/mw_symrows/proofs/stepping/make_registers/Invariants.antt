use Rattle.std.proofs.Common.{◌≡◌, length}
use Rattle.mw_macro.specs.Described.{description_of}
use Rattle.mw_symmem.specs.Words.{AreOf}
use Rattle.mw_symmem.specs.Workspace.{IsLater}
use Rattle.mw_symrows.specs.StepRuns.{AreFirst, AreRegisters}
use Rattle.mw_symrows.proofs.stepping.make_registers.Given as goal

abbrev pub invariant-loop-number : goal.invariant-loop-number
invariant-loop-number l = record {
  count : length l.registers.items ≡ l.number;
  so_far : AreRegisters (description_of l.machine).shape l.terms l.number l.registers.items;
  later : IsLater l.fn.terms l.terms;
  of : AreOf l.terms l.words;
  first : AreFirst l.words;
}
