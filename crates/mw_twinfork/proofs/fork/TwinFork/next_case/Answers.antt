use Rattle.std.proofs.Common.{List, subst}
use Rattle.mw_explore.specs.Cases.{IsToCome}
use Rattle.mw_rel.specs.Case.{IsBefore}
use Rattle.mw_term.specs.declared.decided.Decided.{Decided}
use Rattle.mw_twinfork.specs.Stops.{IsDecisionOver}
use Rattle.mw_twinfork.specs.TwinCases.{IsCaseOf}
use Rattle.mw_twinfork.specs.TwinForks.{TwinFork}
use Rattle.mw_twinfork.proofs.fork.TwinFork.next_case.Goals as goal

pub returns-in-Err-clause-cause : goal.returns-in-Err-clause-cause
returns-in-Err-clause-cause g c = λ number prefix word j same.
    let told = c.fault_of.ensures.nodes number prefix word j same in
    subst (λ (f : TwinFork). IsDecisionOver f.revised f.budget.nodes prefix word j) c.self.view_is
    (c.in-Err.ensures.cause prefix _ told.1)

pub returns-in-Err-clause-before : goal.returns-in-Err-clause-before
returns-in-Err-clause-before g c = λ number prefix word j same.
    let told = c.fault_of.ensures.nodes number prefix word j same in
    subst (λ (f : TwinFork). (other : List Decided) → IsCaseOf f.revised other → IsBefore other prefix
    → ¬ IsToCome f.at other) c.self.view_is (c.in-Err.ensures.before prefix _ told.1)
