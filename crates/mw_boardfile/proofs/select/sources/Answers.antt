use Rattle.std.proofs.Common.{length, refl}
use Rattle.std.proofs.iter.Serving.{serving}
use Rattle.mw_board.specs.Rules.{d_source_rule, source_rule, mask_rule}
use Rattle.mw_boardfile.specs.Kept.{ListKeeps}
use Rattle.mw_boardfile.proofs.Kept.{came_keeps}
use Rattle.mw_boardfile.proofs.select.sources.Goals as goal

pub returns-clause-kept : goal.returns-clause-kept
unfolding d_source_rule source_rule mask_rule
returns-clause-kept c =
    let rule = d_source_rule c.args.width (length c.args.fields.now) (length c.args.flipflops.now) in
    came_keeps (ListKeeps rule c.args.fields.now c.args.control) c.list_or_zero-sources.result c.under_list.result
    c.under_list.ensures.came (c.list_or_zero-sources.ensures.kept rule (λ value result returned. grind serving) refl)
