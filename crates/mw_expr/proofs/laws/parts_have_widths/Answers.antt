use Rattle.mw_expr.proofs.Accepted.{parts_have_widths}
use Rattle.mw_expr.proofs.laws.parts_have_widths.Goals as goal

pub returns : goal.returns
returns c = parts_have_widths
