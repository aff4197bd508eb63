-- From boundary to boundary, and what all of them together say.
use Rattle.std.proofs.Common.{◌≡◌, ℕ, ◌<◌, List, length, sym, ◌∙◌, arith}
use Rattle.std.specs.Prelude.{slice_index_or}
use Rattle.std.proofs.lemmas.Option.{none-some, slice_get-get_or, slice_get_within}
use Rattle.mw_rel.specs.Certified.{Certified}
use Rattle.mw_rel.specs.Job.{Job, IsJob}
use Rattle.mw_ready.specs.StartLaws.{NoneDiffers}
use Rattle.mw_ready.proofs.Steps.{certified_where_none_differs}
use Rattle.mw_fork.specs.declared.budget.Budget.{Budget}
use Rattle.mw_check.specs.declared.verdict.Summary.{Summary}
use Rattle.mw_check.specs.Searched.{AreSearched, IsSearched}
use Rattle.mw_check.specs.Verdict.{AreSummaries, AreWithinBudget, NoneDiffersBefore}

-- what was found of the boundary with a number
searched_at : (job : Job) (budget : Budget) (summaries : List Summary) (number : ℕ) → AreSearched job budget summaries
    → number < length summaries → (summary : Summary) × IsSearched job number budget summary
searched_at job budget summaries number are inside =
    let none : Summary = record { cases = 0; cycles = 0 } in
    (slice_index_or summaries number none, are number _ (slice_get-get_or summaries number none inside))

pub none_before : (job : Job) (budget : Budget) (summaries : List Summary) (number : ℕ)
    → AreSearched job budget summaries
    → length summaries ≡ number → NoneDiffersBefore job number
none_before job budget summaries number are count earlier less =
    (searched_at job budget summaries earlier are (omega (arith, less, count))).1.none

-- ---- all boundaries

none_differs : (job : Job) (budget : Budget) (summaries : List Summary) → AreSearched job budget summaries
    → length summaries ≡ length job.relation.boundaries → NoneDiffers job
none_differs job budget summaries are count start difference differs =
    let at = differs.begins.boundary in
    let inside = slice_get_within job.relation.boundaries at.0 start.boundary at.1 in
    let none = (searched_at job budget summaries at.0 are (omega (arith, inside, count))).1.none start
    (record { begins = differs.begins; there = at.1 }) in
    none-some difference (sym none ∙ differs.shows)

pub certified : (job : Job) (budget : Budget) (summaries : List Summary) → IsJob job → AreSearched job budget summaries
    → length summaries ≡ length job.relation.boundaries → Certified job
certified job budget summaries is are count =
    (certified_where_none_differs job is).1 (none_differs job budget summaries are count)

pub summaries_are : (job : Job) (budget : Budget) (summaries : List Summary) → AreSearched job budget summaries
    → length summaries ≡ length job.relation.boundaries → AreSummaries job summaries
summaries_are job budget summaries are count =
    record { count = count; each = λ number summary there. (are number summary there).sums }

pub all_within : (job : Job) (budget : Budget) (summaries : List Summary) → AreSearched job budget summaries
    → length summaries ≡ length job.relation.boundaries → AreWithinBudget job budget
all_within job budget summaries are count number inside =
    (searched_at job budget summaries number are (omega (arith, inside, count))).1.within
