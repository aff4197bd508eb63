use Rattle.mw_symmem.proofs.Growth.{grows_one, has_made}
use Rattle.mw_symmem.proofs.read.add.Goals as goal

pub returns-clause-grows : goal.returns-clause-grows
returns-clause-grows c =
    let e = c.in_ok-term.ensures in
    grows_one c.args.terms.now c.add.new.terms c.args.words.now c.add.new.self c.args.op c.in_ok-term.term e.words
    e.extends e.keeps e.table e.of c.requires.none

pub returns-clause-has : goal.returns-clause-has
returns-clause-has c =
    let e = c.in_ok-term.ensures in
    has_made c.args.terms.now c.add.new.terms c.args.op c.in_ok-term.term e.extends c.requires.fits e.made e.op
