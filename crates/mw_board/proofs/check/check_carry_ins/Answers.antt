use Rattle.std.proofs.iter.Serving.{serving}
use Rattle.mw_board.specs.Rules.{carry_in_rule}
use Rattle.mw_board.proofs.check.check_carry_ins.Goals as goal

pub returns : goal.returns
returns c = c.chosen_list.ensures (carry_in_rule c.args.width c.args.flipflops) (λ value result returned. grind serving)
