use Rattle.mw_symmach.proofs.Single.{gives_choice}
use Rattle.mw_symmach.proofs.nodes.choice.Goals as goal

pub returns-clause-gives : goal.returns-clause-gives
returns-clause-gives c =
    gives_choice c.args.terms.now c.add.new.terms c.args.words.now c.add.new.words c.args.condition c.args.a c.args.b
    c.in_ok-term.term c.in_ok-term.ensures.gives
