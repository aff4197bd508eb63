use Rattle.std.proofs.Common.{add-one, refl}
use Rattle.mw_sim.specs.Start.{with_values}
use Rattle.mw_sim.proofs.start.set_elements.Goals as goal

pub loop-number-init : goal.loop-number-init
unfolding with_values
loop-number-init c = record { so_far = refl; fits = c.requires.fits }

pub loop-number-preserved : goal.loop-number-preserved
unfolding with_values
loop-number-preserved c = record {
  so_far = rw (add-one, c.set_element.ensures.exact, c.loop-number.invariant.so_far) refl;
  fits = c.set_element.ensures.fits;
}
