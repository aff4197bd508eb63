use Rattle.std.proofs.Common.{[], ◌-◌, length}
use Rattle.mw_sim.specs.Run.{run_at}
use Rattle.mw_sim.proofs.Runs.{HasWaited}
use Rattle.mw_replay.proofs.request.request_of.Given as goal

-- each clock so far was a wait
abbrev pub invariant-waits : goal.invariant-waits
invariant-waits l =
    HasWaited l.board l.store.words l.env (run_at l.state [] l.fn.clock) (run_at l.state [] l.making)

-- each wait is one of the wait list
abbrev pub decreases-waits : goal.decreases-waits
decreases-waits l = length l.env.wait - l.making.clocks
