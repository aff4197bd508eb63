use Rattle.std.proofs.Common.{refl}
use Rattle.mw_cycle.proofs.OnLiterals.{cycle_on_literals}
use Rattle.mw_cycle.specs.ReadingWords.{reading_words}
use Rattle.mw_cycle.specs.LeavingWords.{leaving_words}
use Rattle.mw_cycle.specs.EdgeWords.{edge_words}
use Rattle.mw_cycle.specs.CycleWords.{cycle_words}
use Rattle.mw_macro.specs.StepWords.{step_words}
use Rattle.mw_rel.proofs.OnLiterals.{start_on_literals}
use Rattle.mw_rel.specs.CaseWords.{words_along}
use Rattle.mw_rel.specs.ComparisonWords.{comparison_words}
use Rattle.mw_rel.specs.StartWords.{start_words}
use Rattle.mw_term.specs.WordList.{memory_read_words}
use Rattle.mw_tests.proofs.words.worked_case_words.Goals as goal

pub returns-clause-asks : goal.returns-clause-asks
unfolding cycle_on_literals start_on_literals reading_words leaving_words edge_words cycle_words step_words words_along
    comparison_words start_words memory_read_words
returns-clause-asks c = refl

pub returns-clause-at : goal.returns-clause-at
unfolding cycle_on_literals start_on_literals reading_words leaving_words edge_words cycle_words step_words words_along
    comparison_words start_words memory_read_words
returns-clause-at c = refl

pub returns-clause-sum : goal.returns-clause-sum
unfolding cycle_on_literals start_on_literals reading_words leaving_words edge_words cycle_words step_words words_along
    comparison_words start_words memory_read_words
returns-clause-sum c = refl

pub returns-clause-op : goal.returns-clause-op
unfolding cycle_on_literals start_on_literals reading_words leaving_words edge_words cycle_words step_words words_along
    comparison_words start_words memory_read_words
returns-clause-op c = refl

pub returns-clause-whole : goal.returns-clause-whole
unfolding cycle_on_literals start_on_literals reading_words leaving_words edge_words cycle_words step_words words_along
    comparison_words start_words memory_read_words
returns-clause-whole c = refl

pub returns-clause-compares : goal.returns-clause-compares
unfolding cycle_on_literals start_on_literals reading_words leaving_words edge_words cycle_words step_words words_along
    comparison_words start_words memory_read_words
returns-clause-compares c = refl

pub returns-clause-late : goal.returns-clause-late
unfolding cycle_on_literals start_on_literals reading_words leaving_words edge_words cycle_words step_words words_along
    comparison_words start_words memory_read_words
returns-clause-late c = refl
