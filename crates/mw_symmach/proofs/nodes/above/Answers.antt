use Rattle.mw_symmach.proofs.Single.{inside_widths, gives_above}
use Rattle.mw_symmach.proofs.nodes.above.Goals as goal

pub add-requires-clause-fits : goal.add-requires-clause-fits
add-requires-clause-fits c =
    let t = c.args.terms.now in
    (inside_widths t c.args.high c.requires.high, inside_widths t c.args.low c.requires.low, c.requires.most)

pub returns-clause-gives : goal.returns-clause-gives
returns-clause-gives c =
    gives_above c.args.terms.now c.add.new.terms c.args.words.now c.add.new.words c.args.high c.args.low
    c.in_ok-term.term c.in_ok-term.ensures.gives
