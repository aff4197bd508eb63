use Rattle.std.proofs.Common.{codes, refl}
use Rattle.mw_boardfile.proofs.Keys.{same_key_other}
use Rattle.mw_boardfile.proofs.entries.named_bit.Goals as goal

pub returns-in_default : goal.returns-in_default
returns-in_default c =
    let text = c.args.text.now in
    rw (
      same_key_other text (codes "zero") c.in_default.not-zero,
      same_key_other text (codes "one") c.in_default.not-one,
      same_key_other text (codes "carry") c.in_default.not-carry,
      same_key_other text (codes "overflow") c.in_default.not-overflow,
      same_key_other text (codes "f_zero") c.in_default.not-f_zero,
      same_key_other text (codes "sign") c.in_default.not-sign,
      same_key_other text (codes "f_low") c.in_default.not-f_low,
      same_key_other text (codes "f_high") c.in_default.not-f_high,
      same_key_other text (codes "q_low") c.in_default.not-q_low,
      same_key_other text (codes "q_high") c.in_default.not-q_high,
      same_key_other text (codes "line") c.in_default.not-line,
      same_key_other text (codes "full") c.in_default.not-full,
    ) refl
