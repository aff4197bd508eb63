-- How clauses see what is known of a question's text.
use Rattle.mw_expr.specs.Tree.{view}
use Rattle.mw_check.specs.declared.question_text.Half.{Half as KeptHalf}
use Rattle.mw_check.specs.declared.question_text.Known.{Known as Kept}
use Rattle.mw_check.specs.declared.question_text.Known.TheVariants as kept
use Rattle.mw_check.specs.declared.side.Side.{Side as KeptSide}
use Rattle.mw_check.specs.declared.variables.Variables.{Variables as KeptVariables}
use Rattle.mw_check.specs.Question.{asked_of}
use Rattle.mw_check.specs.QuestionText.{Variables, Side, Half, Known, declaring, halved, whole}

-- variables
abbrev pub variables_seen : KeptVariables → Variables
variables_seen v = record { names = v.names.items; widths = v.widths.items }

-- a side
abbrev pub side_seen : KeptSide → Side
side_seen side = record { tree = view side.expr; width = side.width }

-- the variables and the left side
abbrev pub half_seen : KeptHalf → Half
half_seen h = record { names = h.names; shape = h.shape; left = side_seen h.left }

-- what is known
abbrev pub known_seen : Kept → Known
known_seen (kept.Declaring v) = declaring (variables_seen v)
known_seen (kept.Halved h) = halved (half_seen h)
known_seen (kept.Whole q) = whole (asked_of q)
