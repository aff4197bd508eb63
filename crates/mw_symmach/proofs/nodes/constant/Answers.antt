use Rattle.mw_symmach.proofs.Single.{gives_constant}
use Rattle.mw_symmach.proofs.nodes.constant.Goals as goal

pub returns-clause-gives : goal.returns-clause-gives
returns-clause-gives c = λ ws.
    (let e = c.in_ok-term.ensures in
    gives_constant c.args.terms.now c.write.new.self ws c.args.number c.args.width c.in_ok-term.term e.appends e.made
    e.extends e.keeps e.table)
