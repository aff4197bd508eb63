use Rattle.std.proofs.Common.{codes, refl}
use Rattle.mw_boardfile.proofs.Keys.{same_key_other}
use Rattle.mw_boardfile.proofs.entries.named_load.Goals as goal

pub returns-in_default : goal.returns-in_default
returns-in_default c =
    let text = c.args.text.now in
    rw (
      same_key_other text (codes "hold") c.in_default.not-hold,
      same_key_other text (codes "invert") c.in_default.not-invert,
      same_key_other text (codes "xor_carry") c.in_default.not-xor_carry,
    ) refl
