use Rattle.mw_symmach.proofs.Single.{inside_widths, of_own_width, gives_not}
use Rattle.mw_symmach.proofs.nodes.complement.Goals as goal

pub add-requires-clause-fits : goal.add-requires-clause-fits
add-requires-clause-fits c = inside_widths c.args.terms.now c.args.operand c.requires

pub returns-clause-gives : goal.returns-clause-gives
returns-clause-gives c =
    gives_not c.args.terms.now c.add.new.terms c.args.words.now c.add.new.words c.args.operand c.in_ok-term.term _
    (of_own_width c.args.terms.now c.args.operand c.requires) c.in_ok-term.ensures.gives
