use Rattle.std.proofs.Common.{length, refl}
use Rattle.std.proofs.iter.Serving.{serving}
use Rattle.mw_board.specs.Rules.{carry_in_rule, bit_rule}
use Rattle.mw_boardfile.specs.Kept.{ListKeeps}
use Rattle.mw_boardfile.proofs.Kept.{came_keeps}
use Rattle.mw_boardfile.proofs.select.carry_ins.Goals as goal

pub returns-clause-kept : goal.returns-clause-kept
unfolding carry_in_rule bit_rule
returns-clause-kept c =
    let rule = carry_in_rule c.args.width (length c.args.flipflops.now) in
    came_keeps (ListKeeps rule c.args.fields.now c.args.control) c.list_or_zero-bits.result c.under_list.result
    c.under_list.ensures.came (c.list_or_zero-bits.ensures.kept rule (λ value result returned. grind serving) refl)
