use Rattle.std.proofs.Common.{◌∙◌}
use Rattle.mw_base.proofs.Borrowed.{borrowed}
use Rattle.mw_base.proofs.membership.is_one_of.Goals as goal

pub returns : goal.returns
returns c = c.any_is.ensures ∙ borrowed c.args.texts.now c.args.text.now
