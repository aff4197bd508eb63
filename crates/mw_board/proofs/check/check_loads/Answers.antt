use Rattle.std.proofs.iter.Serving.{serving}
use Rattle.std.proofs.Common.{refl}
use Rattle.mw_board.specs.Rules.{load_rule}
use Rattle.mw_board.proofs.check.check_loads.Goals as goal

pub returns : goal.returns
returns c = rw (
  c.chosen_list.ensures (load_rule c.args.width c.args.flipflops) (λ value result returned. grind serving),
  c.number_16.ensures,
) refl
