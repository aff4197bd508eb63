use Rattle.std.proofs.Common.{◌≡◌}
use Rattle.mw_macro.specs.Described.{description_of}
use Rattle.mw_pal.specs.Console.{run_of}
use Rattle.mw_pal.specs.Views.{IsReady, run_seen}
use Rattle.mw_pal.proofs.running.run.Given as goal

abbrev pub invariant-loop : goal.invariant-loop
invariant-loop l = record {
  ready : IsReady (description_of l.machine) l.stand;
  run : run_seen l.stand ≡ run_of (description_of l.machine) l.fn.state l.fn.keys l.counter;
}
