use Rattle.mw_dd.specs.Nodes.{IsDd}
use Rattle.mw_callrows.proofs.calls.diagrams.push_budgets.Given as goal

abbrev pub invariant-loop-budget : goal.invariant-loop-budget
invariant-loop-budget l = IsDd l.diagrams l.f × (IsDd l.diagrams l.g × IsDd l.diagrams l.h)
