use Rattle.mw_rel.proofs.Numbered.{numbered_start, numbered_comparison}
use Rattle.mw_rel.proofs.laws.words_of_cases_are_numbered.Goals as goal

pub returns : goal.returns
returns c = record { starts = numbered_start; comparisons = numbered_comparison }
