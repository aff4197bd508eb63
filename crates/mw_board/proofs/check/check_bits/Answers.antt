use Rattle.std.proofs.iter.Serving.{serving}
use Rattle.mw_board.specs.Rules.{bit_rule}
use Rattle.mw_board.proofs.check.check_bits.Goals as goal

pub returns : goal.returns
returns c = c.chosen_list.ensures (bit_rule c.args.width c.args.flipflops) (λ value result returned. grind serving)
