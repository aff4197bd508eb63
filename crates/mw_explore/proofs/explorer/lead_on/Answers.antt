use Rattle.mw_explore.proofs.Advancing.{kept_at, leads_first, leads_nowhere, leads_turned, none_kept, turned_waits}
use Rattle.mw_explore.proofs.explorer.lead_on.Goals as goal

pub returns-in-Before-clause-leads : goal.returns-in-Before-clause-leads
returns-in-Before-clause-leads g c = λ yes.
    let tree = c.args.tree.now in
    leads_first (g.T.CaseTree.is_case tree) c.args.stage.now c.args.trail.now.way c.are_in_order.ensures.order
    c.are_in_order.ensures.some c.in-Before.is
    (none_kept (g.T.CaseTree.is_case tree) (g.T.CaseTree.has_gone tree) (g.T.CaseTree.is_waiting tree) c.args.stage.now
    c.args.trail.now.way c.args.trail.now.waiting.items c.in-Before.is c.requires)

pub returns-in-At-clause-leads : goal.returns-in-At-clause-leads
returns-in-At-clause-leads g c = λ yes.
    let tree = c.args.tree.now in
    leads_turned (g.T.CaseTree.is_case tree) c.args.stage.now _ c.args.trail.now.way c.turn.new.self
    c.are_in_order.ensures.order
    (kept_at (g.T.CaseTree.is_case tree) (g.T.CaseTree.has_gone tree) (g.T.CaseTree.is_waiting tree) c.args.stage.now _
    c.args.trail.now.way c.args.trail.now.waiting.items c.in-At.is c.requires).kept c.in-At.is (c.turn.ensures.yes yes)

pub returns-in-At-clause-begin : goal.returns-in-At-clause-begin
returns-in-At-clause-begin g c = λ yes.
    let tree = c.args.tree.now in
    turned_waits (g.T.CaseTree.is_waiting tree) (g.T.CaseTree.is_case tree) (g.T.CaseTree.has_gone tree)
    c.args.stage.now _ c.args.trail.now.way c.turn.new.self c.args.trail.now.waiting.items c.in-At.is
    (c.turn.ensures.yes yes) c.requires

pub returns-in-At-clause-none : goal.returns-in-At-clause-none
returns-in-At-clause-none g c = λ no.
    let tree = c.args.tree.now in
    leads_nowhere (g.T.CaseTree.is_case tree) c.args.stage.now _ c.args.trail.now.way
    (kept_at (g.T.CaseTree.is_case tree) (g.T.CaseTree.has_gone tree) (g.T.CaseTree.is_waiting tree) c.args.stage.now _
    c.args.trail.now.way c.args.trail.now.waiting.items c.in-At.is c.requires).kept c.in-At.is (c.turn.ensures.no no).0
