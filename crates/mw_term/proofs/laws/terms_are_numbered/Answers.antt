use Rattle.mw_term.proofs.Numbered.{numbered_at_first, numbered_constant, numbered_word, numbered_variable}
use Rattle.mw_term.proofs.Numbered.{numbered_read}
use Rattle.mw_term.proofs.laws.terms_are_numbered.Goals as goal

pub returns : goal.returns
returns c = record {
  first = numbered_at_first;
  constants = numbered_constant;
  words = numbered_word;
  variables = numbered_variable;
  reads = numbered_read;
}
