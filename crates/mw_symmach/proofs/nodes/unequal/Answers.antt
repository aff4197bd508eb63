use Rattle.std.proofs.Common.{ap, ◌∙◌}
use Rattle.mw_symmach.proofs.Single.{gives_unequal}
use Rattle.mw_term.specs.WordList.{with_complement}
use Rattle.mw_symmach.proofs.nodes.unequal.Goals as goal

pub returns-clause-gives : goal.returns-clause-gives
returns-clause-gives c =
    gives_unequal c.args.terms.now c.add.new.terms c.complement.new.terms c.args.words.now c.add.new.words
    c.complement.new.words c.args.a c.args.b c.in_ok-same.same c.in_ok-term.term c.in_ok-same.ensures.gives
    c.in_ok-term.ensures.gives

pub returns-clause-listed : goal.returns-clause-listed
returns-clause-listed c = λ reads.
    (c.in_ok-term.ensures.listed reads
    ∙ ap (λ x. with_complement x.term x.list) (c.in_ok-same.ensures.listed reads))
