use Rattle.std.proofs.Common.{arith}
use Rattle.std.proofs.Math.Pow.{pow_mono}
use Rattle.mw_symboard.proofs.Ends.{number_below, number_small}
use Rattle.mw_symboard.proofs.leaving.address.Goals as goal

pub with_bit-address-requires : goal.with_bit-address-requires
with_bit-address-requires c =
    omega (arith, number_small c.args.decided.now c.args.before c.loop-place.place (omega arith))

pub returns-clause-below : goal.returns-clause-below
returns-clause-below c =
    let place = c.loop-place.place in
    omega (arith, number_below c.args.decided.now c.args.before place, pow_mono {i = place} {j = 12} (omega arith))
