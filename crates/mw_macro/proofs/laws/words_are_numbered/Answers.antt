use Rattle.mw_macro.proofs.Numbered.{numbered_expression, numbered_acts, numbered_step}
use Rattle.mw_macro.proofs.laws.words_are_numbered.Goals as goal

pub returns : goal.returns
returns c = record { expressions = numbered_expression; acts = numbered_acts; steps = numbered_step }
