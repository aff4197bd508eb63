use Rattle.std.proofs.Common.{◌≡◌, map}
use Rattle.mw_cycle.specs.Boundary.{numbers}
use Rattle.mw_rel.specs.Free.{numbered}
use Rattle.mw_rel.specs.Views.{job_of}
use Rattle.mw_sim.specs.Settings.{AreBounded}
use Rattle.mw_replay.specs.CounterText.{settable}
use Rattle.mw_replay.proofs.elements.settables_of.Given as goal

abbrev pub invariant-loop-number : goal.invariant-loop-number
invariant-loop-number l = record {
  so_far : l.elements.items
      ≡ map (settable (job_of l.job) (numbered (job_of l.job) l.boundary)) (numbers 0 l.number);
  bounded : AreBounded l.elements.items;
}
