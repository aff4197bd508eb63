use Rattle.std.proofs.Common.{refl, ap, arith, sym, ◌∙◌}
use Rattle.mw_cycle.specs.ReadingWords.{line_words}
use Rattle.mw_cycle.specs.SteadySeries.{Noise}
use Rattle.mw_term.specs.WordList.{list_of}
use Rattle.mw_symboard.proofs.outside.line.Goals as goal

pub returns-in-Some-clause-wide : goal.returns-in-Some-clause-wide
returns-in-Some-clause-wide c = c.requires.wide c.in-Some.term c.in-Some.is

pub returns-in-Some-clause-noise : goal.returns-in-Some-clause-noise
returns-in-Some-clause-noise c = c.requires.none Noise refl c.args.cycle (omega arith)

pub returns-in_ok-term-in-None-clause-listed : goal.returns-in_ok-term-in-None-clause-listed
returns-in_ok-term-in-None-clause-listed c = λ reads.
    (c.in_ok-term-in-None.ensures.listed reads
    ∙ ap (λ o. line_words c.args.side c.args.cycle o (list_of c.args.terms.now.ops c.args.words.now reads))
    (sym c.in-None.is))
