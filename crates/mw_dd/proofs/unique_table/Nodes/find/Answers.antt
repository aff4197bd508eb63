use Rattle.std.proofs.Common.{refl}
use Rattle.std.proofs.lemmas.Option.{IfSome_then}
use Rattle.mw_dd.proofs.Stored.{found, absent_variable, absent_stored}
use Rattle.mw_dd.proofs.unique_table.Nodes.find.Goals as goal

pub returns-in_default-clause-absent : goal.returns-in_default-clause-absent
returns-in_default-clause-absent c = λ none.
    rw (← c.self.view_is)
    (absent_variable c.self.inside.variables c.self.inside.stored c.self.invariant c.args.node.now
    (c.in_default.ensures.absent refl))

pub returns-clause-found : goal.returns-clause-found
returns-clause-found c =
    IfSome_then c.find.result c.find.ensures.found (λ place at.
    rw (← c.self.view_is)
    (found c.self.inside.variables c.self.inside.stored c.in-Some.index place c.args.node.now c.in-Some.ensures.found
    at))

pub returns-clause-absent : goal.returns-clause-absent
returns-clause-absent c = λ none.
    rw (← c.self.view_is)
    (absent_stored c.self.inside.variables c.self.inside.stored c.self.invariant c.in-Some.index c.args.node.now
    c.in-Some.ensures.found (c.find.ensures.absent none))
