use Rattle.std.proofs.Common.{List, sym, subst}
use Rattle.mw_dd.specs.declared.nodes.Node.{Node}
use Rattle.mw_dd.specs.Nodes.{IsDd}
use Rattle.mw_dd.proofs.Public.{false_exact}
use Rattle.mw_dd.proofs.Somewhere.{false_somewhere}
use Rattle.mw_dd.proofs.Unique.{canonical}
use Rattle.mw_dd.proofs.diagrams.Diagrams.is_false.Goals as goal

pub returns-clause-exact : goal.returns-clause-exact
returns-clause-exact c =
    rw (← c.self.view_is)
    (false_exact c.self.inside.nodes c.self.invariant.reduced c.args.f c.position.result
    (subst (λ (ns : List Node). IsDd ns c.args.f) (sym c.self.view_is) c.requires) c.position.ensures.exact)

pub returns-clause-somewhere : goal.returns-clause-somewhere
returns-clause-somewhere c =
    rw (← c.self.view_is)
    (false_somewhere c.self.inside.nodes c.self.invariant.reduced c.args.f c.position.result
    (subst (λ (ns : List Node). IsDd ns c.args.f) (sym c.self.view_is) c.requires) c.position.ensures.exact)

pub returns-clause-canonical : goal.returns-clause-canonical
returns-clause-canonical c = rw (← c.self.view_is) (canonical c.self.inside.nodes c.self.invariant.reduced)
