use Rattle.std.proofs.Common.{◌∙◌, ap, sym}
use Rattle.mw_dd.specs.Nodes.{value_at}
use Rattle.mw_dd.proofs.Values.{value-zero, value-one}
use Rattle.mw_dd.proofs.diagrams.Diagrams.constant.Goals as goal

pub returns-then-value-clause-exact : goal.returns-then-value-clause-exact
returns-then-value-clause-exact c = λ given.
    ap (value_at given c.args.self.now) c.at.ensures ∙ value-one given c.args.self.now ∙ sym c.if-value.true

pub returns-else-value-clause-exact : goal.returns-else-value-clause-exact
returns-else-value-clause-exact c = λ given.
    ap (value_at given c.args.self.now) c.at-else-value.ensures
    ∙ value-zero given c.args.self.now
    ∙ sym c.if-value.false
