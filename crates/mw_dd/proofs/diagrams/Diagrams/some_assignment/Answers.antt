use Rattle.std.proofs.Common.{◌∙◌, ap}
use Rattle.std.proofs.lemmas.Bool.{false≢true}
use Rattle.mw_dd.specs.Nodes.{value_at}
use Rattle.mw_dd.proofs.Values.{value-zero}
use Rattle.mw_dd.proofs.Walks.{some_number}
use Rattle.mw_dd.proofs.diagrams.Diagrams.some_assignment.Goals as goal

pub first_assignment-requires-clause-some : goal.first_assignment-requires-clause-some
first_assignment-requires-clause-some c =
    some_number c.args.f (λ zero. false≢true (c.if-is_false.ensures.exact.1
    (λ given. ap (value_at given c.args.self.now) zero ∙ value-zero given c.args.self.now)))
