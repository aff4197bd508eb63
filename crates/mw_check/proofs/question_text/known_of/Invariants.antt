use Rattle.std.proofs.Common.{◌≡◌, drop}
use Rattle.mw_base.specs.Steps.{steps}
use Rattle.mw_check.specs.QuestionKept.{IsKnownQuestion}
use Rattle.mw_check.specs.QuestionText.{declaring, no_variables, with_line}
use Rattle.mw_check.specs.QuestionViews.{known_seen}
use Rattle.mw_check.proofs.question_text.known_of.Given as goal

abbrev pub invariant-loop-line : goal.invariant-loop-line
invariant-loop-line l = record {
  told : steps (with_line l.text) (known_seen l.known) (drop l.line-index l.lines)
      ≡ steps (with_line l.text) (declaring no_variables) l.lines;
  kept : IsKnownQuestion (known_seen l.known);
}
