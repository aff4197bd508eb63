use Rattle.mw_expr.proofs.Accepted.{widths_are_by_rule}
use Rattle.mw_expr.proofs.laws.widths_are_by_rule.Goals as goal

pub returns : goal.returns
returns c = widths_are_by_rule
