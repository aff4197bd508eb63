use Rattle.mw_symboard.proofs.Fitting.{wide_not}
use Rattle.std.proofs.Common.{◌∙◌}
use Rattle.mw_term.specs.WordList.{list_of}
use Rattle.mw_symboard.proofs.Listing.{turned_over}
use Rattle.mw_symboard.proofs.reading.turned.Goals as goal

pub returns-clause-wide : goal.returns-clause-wide
returns-clause-wide c =
    wide_not c.args.terms.now c.word.new.terms 1 c.args.bit c.in_ok-term.term c.in_ok-term.ensures.made c.requires.wide

pub returns-clause-listed : goal.returns-clause-listed
returns-clause-listed c = λ reads.
    (c.in_ok-term.ensures.listed reads
    ∙ turned_over c.args.polarity c.args.bit (list_of c.args.terms.now.ops c.args.words.now reads)
    c.if-not-polarity.false)
