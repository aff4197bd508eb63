use Rattle.std.proofs.iter.Serving.{serving}
use Rattle.std.proofs.Common.{length}
use Rattle.mw_board.specs.Rules.{d_source_rule}
use Rattle.mw_board.proofs.check.check_sources.Goals as goal

pub returns : goal.returns
returns c =
    c.chosen_list.ensures (d_source_rule c.args.width (length c.args.fields.now) c.args.flipflops)
    (λ value result returned. grind serving)
