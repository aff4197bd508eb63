use Rattle.mw_rel.proofs.Choices.{each_choice_gives_a_pair}
use Rattle.mw_rel.proofs.laws.each_choice_gives_a_pair.Goals as goal

pub returns : goal.returns
returns c = each_choice_gives_a_pair
