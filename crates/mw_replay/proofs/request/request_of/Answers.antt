use Rattle.std.proofs.Common.{[], refl, sym, ap, ◌∙◌}
use Rattle.mw_cycle.specs.declared.state.CycleIn.{CycleIn}
use Rattle.mw_sim.specs.Run.{run_at}
use Rattle.mw_sim.proofs.Runs.{not_yet, wait_more}
use Rattle.mw_replay.proofs.Requests.{request_is}
use Rattle.mw_replay.proofs.request.request_of.Goals as goal

pub waits-init : goal.waits-init
waits-init c = not_yet _ _ _ (run_at c.args.state.now [] c.args.clock)

pub waits-preserved : goal.waits-preserved
waits-preserved c =
    wait_more _ _ _ _ (run_at c.args.state.now [] c.waits.making) _ c.waits.invariant
    (sym c.waits_next.ensures.exact ∙ c.waits-test.true) (rw c.after_wait-making.ensures refl)

pub returns : goal.returns
returns c =
    ap (λ (given : CycleIn). given.line) c.given.ensures
    ∙ request_is _ _ _ _ (run_at c.args.state.now [] c.waits.making) c.waits.invariant
    (sym c.waits_next.ensures.exact ∙ c.waits-test.false)
