use Rattle.std.proofs.Common.{◌≡◌, List, ap, subst, ◌∙◌}
use Rattle.mw_compare.specs.TreeComparisons.{AreComparisonsWithin}
use Rattle.mw_explore.specs.Cases.{At}
use Rattle.mw_revise.specs.TwinBudgets.{AreTwinNodesOver}
use Rattle.mw_revise.specs.TwinWords.{twin_tree}
use Rattle.mw_term.specs.declared.decided.Decided.{Decided}
use Rattle.mw_twinfork.specs.declared.twins.Twins.{Twins}
use Rattle.mw_twinfork.specs.Found.{IsFoundOf}
use Rattle.mw_twinfork.specs.TwinForks.{TwinFork}
use Rattle.mw_twinfork.proofs.fork.TwinFork.differs.Goals as goal

pub returns-clause-within : goal.returns-clause-within
returns-clause-within g c = λ none.
    let e = c.self.inside.cases in
    subst (λ (f : TwinFork). (last : List Decided) → f.at ≡ At last
    → AreComparisonsWithin (twin_tree f.revised.revision f.revised.block) f.budget.nodes last) c.self.view_is
    (λ last here. (subst (IsFoundOf e.tree.revised e.tree.nodes last) none (c.in-Ok.ensures.found last here)).1)

pub returns-in-Err-clause-cause : goal.returns-in-Err-clause-cause
returns-in-Err-clause-cause g c = λ number prefix word j same.
    let told = c.fault_of.ensures.nodes number prefix word j same in
    let cause = c.in-Err.ensures.cause prefix _ told.1 in
    subst (λ (f : TwinFork). (number ≡ f.boundary) × (f.at ≡ At prefix)
    × AreTwinNodesOver f.revised.revision f.revised.block f.budget.nodes prefix word j) c.self.view_is
    (told.0 ∙ ap (λ (t : Twins). t.boundary) c.tree.ensures, cause.0, cause.1)
