use Rattle.mw_expr.proofs.Sound.{is_read_by_rule}
use Rattle.mw_expr.proofs.Complete.{is_read_where_ruled}
use Rattle.mw_expr.proofs.laws.trees_are_by_rule.Goals as goal

pub returns : goal.returns
returns c = record { by_rule = is_read_by_rule; complete = is_read_where_ruled }
