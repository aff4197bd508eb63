use Rattle.std.proofs.Common.{inl, refl, ◌∙◌, arith}
use Rattle.mw_cycle.specs.declared.series.Series.TheVariants.{Inputs}
use Rattle.mw_sim.specs.Run.{run_at}
use Rattle.mw_sim.proofs.Runs.{both_first, cycle_made, few_waited, not_so, not_yet, wait_more}
use Rattle.mw_sim.proofs.run.advance.Goals as goal

pub clocks-init : goal.clocks-init
clocks-init g c = record {
  waited = not_yet _ _ _ (run_at c.args.state.now c.args.events.now.items c.args.clock);
  state = refl;
  events = refl;
  cycle = refl;
  taken = refl;
  few = inl (omega arith);
}

pub clock-requires-clause-input : goal.clock-requires-clause-input
clock-requires-clause-input g c =
    rw c.given-given.ensures (c.requires.env_in.values Inputs c.clocks.reached.taken)

pub returns-in-Some-clause-exact : goal.returns-in-Some-clause-exact
returns-in-Some-clause-exact g c =
    let now = run_at c.clocks.state c.clocks.events.items c.clocks.reached in
    let none = rw c.waits-wait.ensures.exact at c.clock.ensures.wait.1 in
    let made = rw c.in-Some.is at c.clock.ensures.exact in
    let nets = rw c.in-Some.is at c.clock.ensures.nets in
    cycle_made _ _ _ _ now _ c.clocks.invariant.waited (not_so _ _ _ c.in-Some.is none)
    (rw (made, c.note.ensures.items, c.after.ensures, nets, c.given-given.ensures) refl)

pub clocks-preserved : goal.clocks-preserved
clocks-preserved g c =
    let now = run_at c.clocks.state c.clocks.events.items c.clocks.reached in
    let waits = c.clock.ensures.wait.0 c.in-None.is in
    let same = c.clock.ensures.stays c.in-None.is in
    record {
      waited = wait_more _ _ _ _ now _ c.clocks.invariant.waited (rw c.waits-wait.ensures.exact at waits)
          (rw (same, c.after_wait-reached.ensures) refl);
      state = same ∙ c.clocks.invariant.state;
      events = c.clocks.invariant.events;
      cycle = rw c.after_wait-reached.ensures c.clocks.invariant.cycle;
      taken = rw c.after_wait-reached.ensures c.clocks.invariant.taken;
      few = rw c.after_wait-reached.ensures (few_waited _ _ c.clocks.invariant.few
          (c.waits-wait.ensures.early (both_first _ _ waits)));
    }
