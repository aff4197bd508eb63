use Rattle.std.proofs.Common.{refl}
use Rattle.mw_debug.specs.Session.{with_cycles}
use Rattle.mw_debug.proofs.Until.{one_more}
use Rattle.mw_debug.proofs.session.Session.make_cycles.Goals as goal

pub cycles-init : goal.cycles-init
unfolding with_cycles
cycles-init c = record { so_far = refl; kept = c.requires.kept }

pub cycles-preserved : goal.cycles-preserved
cycles-preserved c = record {
  so_far = one_more _ _ _ _ _ _ _ _ c.cycles.invariant.so_far c.in_ok-make_cycle.ensures.exact;
  kept = c.in_ok-make_cycle.ensures.kept;
}
