use Rattle.std.proofs.Common.{take}
use Rattle.mw_check.specs.QuestionTerms.{AreDeclared}
use Rattle.mw_check.proofs.answer.variables.Given as goal

abbrev pub invariant-loop-i : goal.invariant-loop-i
invariant-loop-i l = AreDeclared (take l.i l.widths) l.terms l.words l.elements.items
