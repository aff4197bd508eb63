use Rattle.std.proofs.Common.{◌≡◌, ◌+◌, ◌≤◌}
use Rattle.std.specs.Prelude.{vec_capacity, vec_len}
use Rattle.mw_cycle.specs.State.{Fits}
use Rattle.mw_sim.specs.Run.{AreFew, cycles_after, run_at}
use Rattle.mw_sim.proofs.Runs.{IsLeft}
use Rattle.mw_sim.proofs.run.run_to_boundary.Given as goal

-- the run has made so many cycles, and none of them ended at a boundary
abbrev pub invariant-cycles : goal.invariant-cycles
invariant-cycles g l =
    let first = run_at l.fn.state l.fn.events.items l.fn.clock in
    record {
      so_far : run_at l.state l.events.items l.reached ≡ cycles_after l.board l.store.words l.env first l.counter;
      left : IsLeft l.board l.store.words l.env first l.boundaries l.limit l.counter;
      fits : Fits l.board l.state;
      cycle : l.reached.cycle ≡ l.fn.clock.cycle + l.counter;
      taken : l.reached.taken ≤ l.fn.clock.taken + l.counter;
      clocks : AreFew l.fn.clock.clocks l.counter l.reached.clocks;
      few : vec_len l.events ≤ vec_len l.fn.events + l.counter;
      capacity : vec_capacity l.fn.events ≤ vec_capacity l.events;
    }
