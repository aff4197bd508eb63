use Rattle.std.proofs.Common.{◌∙◌}
use Rattle.std.proofs.lemmas.Result.{IfOk-weaker}
use Rattle.mw_term.specs.Cofactors.{variable, value_of}
use Rattle.mw_dd.proofs.Keeping.{right-grows}
use Rattle.mw_dd.proofs.Public.{variable_value}
use Rattle.mw_dd.proofs.Unique.{canonical}
use Rattle.mw_dd.proofs.diagrams.Diagrams.variable.Goals as goal

pub returns-clause-exact : goal.returns-clause-exact
returns-clause-exact c =
    let made = variable c.args.bit c.args.word in
    IfOk-weaker c.make.result _ _
    (λ x value given. value given
    ∙ variable_value c.self.inside.nodes given c.at.result c.at-2.result (value_of made given) c.at.ensures
    c.at-2.ensures)
    c.make.ensures.value

pub returns-clause-canonical : goal.returns-clause-canonical
returns-clause-canonical c = canonical c.make.new.nodes c.make.ensures.reduced

pub invariant_of-self : goal.invariant_of-self
invariant_of-self c =
    right-grows c.self.inside.nodes c.make.new.nodes c.self.inside.notes.results c.self.inside.counts
    c.self.inside.bounds c.make.ensures.grows c.make.ensures.reduced c.self.invariant
