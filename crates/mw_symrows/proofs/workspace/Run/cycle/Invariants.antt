use Rattle.mw_symrows.specs.Runs.{IsIdle, IsUnder}
use Rattle.mw_symrows.proofs.workspace.Run.cycle.Given as goal

abbrev pub invariant-loop : goal.invariant-loop
invariant-loop l = record {
  under : IsUnder l.board l.store.words l.self.terms l.self.words l.self.memory l.self.board;
  idle : IsIdle l.self.board l.fn.self.board.place.cycle;
}
