use Rattle.std.proofs.Common.{ℕ, arith, inl, sym, ◌∙◌}
use Rattle.mw_cycle.specs.Boundary.{is_named}
use Rattle.mw_cycle.specs.Environment.{rest_at}
use Rattle.mw_sim.specs.Run.{run_at}
use Rattle.mw_sim.proofs.Runs.{ended, few_more, few_of_fewer, few_within, goes_on, is_late, none_yet, one_more}
use Rattle.mw_cycle.proofs.Segments.{at, find_first}
use Rattle.mw_sim.proofs.run.run_to_boundary.Goals as goal

pub cycles-init : goal.cycles-init
cycles-init g c =
    let place = at c.args.board.now c.args.store.now.words (rest_at c.args.env.now c.args.clock) c.args.state.now in
    record {
      so_far = none_yet _ _ _ (run_at c.args.state.now c.args.events.now.items c.args.clock);
      left = find_first (λ (n : ℕ). is_named c.args.boundaries.now (place n)) c.args.limit;
      fits = c.requires.fits;
      cycle = omega arith;
      taken = omega arith;
      clocks = inl (omega arith);
      few = omega arith;
      capacity = omega arith;
    }

pub returns-then-stands_at-clause-reached : goal.returns-then-stands_at-clause-reached
returns-then-stands_at-clause-reached g c =
    ended _ _ _ _ _ _ _ _ c.cycles.invariant.left c.cycles-test.true
    (one_more _ _ _ _ _ _ _ c.cycles.invariant.so_far c.advance-reached.ensures.exact)
    (sym c.stands_at.ensures ∙ c.if-stands_at.true)

pub returns-then-stands_at-clause-clocks : goal.returns-then-stands_at-clause-clocks
returns-then-stands_at-clause-clocks g c =
    few_of_fewer _ _ _ _ (few_more _ _ _ _ c.cycles.invariant.clocks c.advance-reached.ensures.clocks) (omega arith)

pub advance-reached-requires-clause-clocks : goal.advance-reached-requires-clause-clocks
advance-reached-requires-clause-clocks g c =
    few_within c.args.clock.clocks _ _ c.cycles.invariant.clocks (omega arith) (omega arith)

pub cycles-preserved : goal.cycles-preserved
cycles-preserved g c = record {
  so_far = one_more _ _ _ _ _ _ _ c.cycles.invariant.so_far c.advance-reached.ensures.exact;
  left = goes_on _ _ _ _ _ _ _ _ c.cycles.invariant.left c.cycles-test.true
      (one_more _ _ _ _ _ _ _ c.cycles.invariant.so_far c.advance-reached.ensures.exact)
      (sym c.stands_at.ensures ∙ c.if-stands_at.false);
  fits = c.advance-reached.ensures.fits;
  cycle = omega (arith, c.advance-reached.ensures.cycle, c.cycles.invariant.cycle);
  taken = omega (arith, c.advance-reached.ensures.taken, c.cycles.invariant.taken);
  clocks = few_more _ _ _ _ c.cycles.invariant.clocks c.advance-reached.ensures.clocks;
  few = omega (arith, c.advance-reached.ensures.few, c.cycles.invariant.few);
  capacity = omega (arith, c.advance-reached.ensures.capacity, c.cycles.invariant.capacity);
}

pub returns-clause-late : goal.returns-clause-late
returns-clause-late g c = is_late c.args.board.now c.args.store.now.words c.args.env.now
    (run_at c.args.state.now c.args.events.now.items c.args.clock) c.args.boundaries.now c.args.limit _
    c.cycles.invariant.left c.cycles-test.false
