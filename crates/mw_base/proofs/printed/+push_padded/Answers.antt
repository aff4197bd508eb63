use Rattle.std.proofs.Common.{append_assoc}
use Rattle.mw_base.proofs.Padded.{padded_step}
use Rattle.mw_base.proofs.printed.+push_padded.Goals as goal

pub returns-in_ok-push-clause-ok : goal.returns-in_ok-push-clause-ok
returns-in_ok-push-clause-ok t c = rw (
  c.in_ok-push.ensures.items,
  c.in_ok-push_padded.ensures.ok,
  c.digit_glyph.ensures,
  padded_step c.args.digits c.args.value c.if-digits-gt0.true,
) (simp append_assoc)
