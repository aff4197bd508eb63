use Rattle.std.proofs.Common.{append_assoc}
use Rattle.mw_base.proofs.Glyphs.{glyphs_step}
use Rattle.mw_base.proofs.printed.+push_digits.Goals as goal

pub returns-in_ok-push-clause-ok : goal.returns-in_ok-push-clause-ok
returns-in_ok-push-clause-ok t c = rw (
  c.in_ok-push.ensures.items,
  c.in_ok-push_digits.ensures.ok,
  c.digit_glyph.ensures,
  glyphs_step c.args.base c.args.value c.requires.least c.if-value-gt0.true,
) (simp append_assoc)
