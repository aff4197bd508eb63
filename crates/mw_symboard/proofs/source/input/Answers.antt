use Rattle.std.proofs.Common.{◌∙◌, sym}
use Rattle.mw_symboard.proofs.source.input.Goals as goal

pub returns-in-Some-clause-wide : goal.returns-in-Some-clause-wide
returns-in-Some-clause-wide c =
    c.requires.inputs c.args.number c.in-Some.term (sym c.find.ensures.exact ∙ c.in-Some.is)
