use Rattle.std.proofs.Common.{arith, sym, ◌∙◌}
use Rattle.mw_symboard.proofs.Fitting.{fits_part, wide_part}
use Rattle.mw_term.specs.WordList.{list_of}
use Rattle.mw_symmem.proofs.Forms.{fewer_bits}
use Rattle.mw_symboard.proofs.make.part.Goals as goal

pub word-requires-clause-fits : goal.word-requires-clause-fits
word-requires-clause-fits c =
    fits_part c.args.terms.now c.args.whole_width c.args.whole c.args.low c.args.width c.requires.wide
    (omega arith, omega arith) (omega arith)

pub returns-clause-wide : goal.returns-clause-wide
returns-clause-wide c =
    wide_part c.args.terms.now c.word.new.terms c.args.whole c.args.low c.args.width c.in_ok-term.term
    c.in_ok-term.ensures.made

pub returns-clause-listed : goal.returns-clause-listed
returns-clause-listed c = λ reads.
    (c.in_ok-term.ensures.listed reads
    ∙ sym (fewer_bits c.args.whole_width c.args.whole c.args.low c.args.width
    (list_of c.args.terms.now.ops c.args.words.now reads) c.if-width-whole_width.false))
