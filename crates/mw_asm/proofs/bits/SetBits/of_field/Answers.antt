use Rattle.std.proofs.Common.{◌<◌, ◌-◌, ◌^◌, refl, arith}
use Rattle.std.proofs.lemmas.Nat.{pow_pos}
use Rattle.mw_asm.proofs.Shifts.{shift_fits}
use Rattle.mw_asm.proofs.bits.SetBits.of_field.Goals as goal

pub returns : goal.returns
returns c =
    let some = pow_pos c.args.field.width in
    let mask_below : c.power.result - 1 < 2 ^ c.args.field.width = omega (arith, c.power.ensures, some) in
    let mask = shift_fits (c.power.result - 1) c.args.field.width c.args.field.low mask_below c.requires.fits in
    let value = shift_fits c.args.value c.args.field.width c.args.field.low c.requires.within c.requires.fits in
    rw (mask, value, c.power.ensures) refl
