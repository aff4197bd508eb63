use Rattle.mw_symmach.proofs.Single.{gives_op}
use Rattle.mw_symmach.proofs.nodes.add.Goals as goal

pub returns-clause-gives : goal.returns-clause-gives
returns-clause-gives c =
    let e = c.in_ok-term.ensures in
    gives_op c.args.terms.now c.add.new.terms c.args.words.now c.add.new.self c.args.op c.in_ok-term.term e.words e.made
    e.of c.add.ensures.extends c.add.ensures.keeps c.add.ensures.table c.requires.none
