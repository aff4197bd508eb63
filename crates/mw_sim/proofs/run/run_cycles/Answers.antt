use Rattle.std.proofs.Common.{arith, inl}
use Rattle.mw_sim.specs.Run.{run_at}
use Rattle.mw_sim.proofs.Runs.{few_more, few_within, none_yet, one_more}
use Rattle.mw_sim.proofs.run.run_cycles.Goals as goal

pub cycles-init : goal.cycles-init
cycles-init g c = record {
  so_far = none_yet _ _ _ (run_at c.args.state.now c.args.events.now.items c.args.clock);
  fits = c.requires.fits;
  cycle = omega arith;
  taken = omega arith;
  clocks = inl (omega arith);
  few = omega arith;
  capacity = omega arith;
}

pub advance-reached-requires-clause-clocks : goal.advance-reached-requires-clause-clocks
advance-reached-requires-clause-clocks g c =
    few_within c.args.clock.clocks _ _ c.cycles.invariant.clocks (omega arith) (omega arith)

pub cycles-preserved : goal.cycles-preserved
cycles-preserved g c = record {
  so_far = one_more _ _ _ _ _ _ _ c.cycles.invariant.so_far c.advance-reached.ensures.exact;
  fits = c.advance-reached.ensures.fits;
  cycle = omega (arith, c.advance-reached.ensures.cycle, c.cycles.invariant.cycle);
  taken = omega (arith, c.advance-reached.ensures.taken, c.cycles.invariant.taken);
  clocks = few_more _ _ _ _ c.cycles.invariant.clocks c.advance-reached.ensures.clocks;
  few = omega (arith, c.advance-reached.ensures.few, c.cycles.invariant.few);
  capacity = omega (arith, c.advance-reached.ensures.capacity, c.cycles.invariant.capacity);
}
