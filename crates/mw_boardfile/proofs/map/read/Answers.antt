use Rattle.std.proofs.iter.Serving.{serving}
use Rattle.mw_board.specs.Rules.{map_entry_rule}
use Rattle.mw_boardfile.proofs.map.read.Goals as goal

pub returns-clause-kept : goal.returns-clause-kept
returns-clause-kept c = c.each.ensures.kept map_entry_rule (λ value result returned. grind serving)
