use Rattle.std.proofs.Common.{◌≡◌, ◌-◌, length}
use Rattle.mw_sim.specs.Run.{AreFew, run_at}
use Rattle.mw_sim.proofs.Runs.{HasWaited}
use Rattle.mw_sim.proofs.run.advance.Given as goal

-- the state and the events have stayed so far, since each clock was a wait
abbrev pub invariant-clocks : goal.invariant-clocks
invariant-clocks g l =
    let first = run_at l.fn.state l.fn.events.items l.fn.clock in
    record {
      waited : HasWaited l.board l.store.words l.env first (run_at l.state l.events.items l.reached);
      state : l.state ≡ l.fn.state;
      events : l.events ≡ l.fn.events;
      cycle : l.reached.cycle ≡ l.fn.clock.cycle;
      taken : l.reached.taken ≡ l.fn.clock.taken;
      few : AreFew l.fn.clock.clocks 0 l.reached.clocks;
    }

-- each wait is one of the wait list
abbrev pub decreases-clocks : goal.decreases-clocks
decreases-clocks g l = length l.env.wait - l.reached.clocks
