use Rattle.mw_term.proofs.Tables.{ops_are_words}
use Rattle.mw_term.proofs.laws.ops_are_words.Goals as goal

pub returns : goal.returns
returns c = ops_are_words
