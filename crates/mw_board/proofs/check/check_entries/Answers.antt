use Rattle.std.proofs.iter.Serving.{serving}
use Rattle.mw_board.specs.Rules.{map_entry_rule}
use Rattle.mw_board.proofs.check.check_entries.Goals as goal

pub returns : goal.returns
returns c = c.each.ensures (map_entry_rule) (λ value result returned. grind serving)
