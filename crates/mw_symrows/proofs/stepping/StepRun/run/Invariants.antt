use Rattle.std.proofs.Common.{◌≡◌}
use Rattle.std.specs.Prelude.{false}
use Rattle.mw_macro.specs.Described.{description_of}
use Rattle.mw_symmach.specs.Turns.{is_asked}
use Rattle.mw_symrows.specs.StepRuns.{IsUnderway}
use Rattle.mw_symrows.proofs.stepping.StepRun.run.Given as goal

abbrev pub invariant-loop : goal.invariant-loop
invariant-loop l = record {
  under : IsUnderway (description_of l.machine) l.self.terms l.self.words l.self.memory l.self.step;
  idle : is_asked l.self.step.pending ≡ false;
}
