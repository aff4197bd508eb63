use Rattle.std.proofs.Common.{subst, sym}
use Rattle.mw_explore.specs.Cases.{IsNext, Leads, NoneComesBefore}
use Rattle.mw_explore.proofs.explorer.Explorer.next_case.Goals as goal

pub returns-in-Err-clause-before : goal.returns-in-Err-clause-before
returns-in-Err-clause-before g c = λ prefix place same.
    let leads = c.lead_on.ensures.leads c.if-not-lead_on.false in
    let told = c.halt_at.ensures.at prefix place same in
    let over = c.in-Err.ensures.over place told.1 in
    subst (λ e. NoneComesBefore (g.T.CaseTree.is_case e.tree) e.at prefix) c.self.view_is
    (subst (NoneComesBefore (g.T.CaseTree.is_case c.self.inside.tree) _) (sym told.0)
    (leads.none_before c.advance.new.trail.way over.0))

pub returns-in-Err-clause-feasible : goal.returns-in-Err-clause-feasible
returns-in-Err-clause-feasible g c = λ prefix place same.
    let told = c.halt_at.ensures.at prefix place same in
    let over = c.in-Err.ensures.over place told.1 in
    subst (λ e. Leads (g.T.CaseTree.is_case e.tree) prefix) c.self.view_is
    (subst (Leads (g.T.CaseTree.is_case c.self.inside.tree)) (sym told.0) over.2)

pub returns-clause-case : goal.returns-clause-case
returns-clause-case g c =
    let tree = c.self.inside.tree in
    let leads = c.lead_on.ensures.leads c.if-not-lead_on.false in
    subst (λ e. IsNext (g.T.CaseTree.is_case e.tree) e.at c.in-Ok-prefix.prefix) c.self.view_is
    (subst (IsNext (g.T.CaseTree.is_case tree) _) (sym c.in-Ok-prefix.ensures)
    (leads.next c.advance.new.trail.way c.in-Ok.ensures.way c.in-Ok.ensures.case))
