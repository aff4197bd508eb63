use Rattle.mw_course.proofs.Boundaries.{below_absent}
use Rattle.mw_symboard.proofs.VariableWidths.{wide_variable}
use Rattle.mw_twin.proofs.ElementTerms.{below_variable, variable_there}
use Rattle.mw_twin.proofs.elements.variable.Goals as goal

pub fresh-requires-clause-own : goal.fresh-requires-clause-own
fresh-requires-clause-own c = below_absent _ _ c.requires.below.kinds

pub returns-clause-wide : goal.returns-clause-wide
returns-clause-wide c = wide_variable _ _ _ _ _ c.in_ok-term.ensures.made

pub returns-clause-is : goal.returns-clause-is
returns-clause-is c = variable_there c.args.number _ _ _ c.in_ok-term.ensures.words

pub returns-clause-below : goal.returns-clause-below
returns-clause-below c =
    let e = c.in_ok-term.ensures in
    below_variable c.args.number c.args.space.now.terms _ _ _ _ _ e.words (e.of c.requires.below.of)
    c.requires.below.kinds

pub returns-clause-listed : goal.returns-clause-listed
returns-clause-listed c = c.in_ok-term.ensures.listed c.args.space.now.memory.reads
