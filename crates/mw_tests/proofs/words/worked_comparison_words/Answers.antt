use Rattle.std.proofs.Common.{refl}
use Rattle.mw_rel.specs.ComparisonWords.{comparison_words}
use Rattle.mw_term.specs.WordList.{memory_read_words}
use Rattle.mw_tests.proofs.words.worked_comparison_words.Goals as goal

pub returns-clause-alike : goal.returns-clause-alike
unfolding comparison_words memory_read_words
returns-clause-alike c = refl

pub returns-clause-kinds : goal.returns-clause-kinds
unfolding comparison_words
returns-clause-kinds c = refl

pub returns-clause-number : goal.returns-clause-number
unfolding comparison_words
returns-clause-number c = refl

pub returns-clause-pointer : goal.returns-clause-pointer
unfolding comparison_words
returns-clause-pointer c = refl
