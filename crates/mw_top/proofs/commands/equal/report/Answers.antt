use Rattle.std.proofs.Common.{◌≡◌, ℕ, List, refl}
use Rattle.mw_check.specs.declared.equality.Equality.{Equality}
use Rattle.mw_check.specs.declared.equality.Equality.TheVariants.{Yes, No, Unknown}
use Rattle.mw_check.specs.Equal.{IsAnswer, IsFirstDifference, IsOverBudget}
use Rattle.mw_check.specs.Question.{Asked, AlwaysAgree}
use Rattle.mw_top.proofs.commands.equal.report.Goals as goal

-- what an answer says, case by case
answer_says : (q : Asked) (nodes : ℕ) (equality : Equality) → (equality ≡ Yes → AlwaysAgree q)
    → ((values : List ℕ) → equality ≡ No values → IsFirstDifference q values)
    → ((word bit : ℕ) → equality ≡ Unknown word bit → IsOverBudget q word bit nodes) → IsAnswer q nodes equality
answer_says q nodes Yes agrees differs over = agrees refl
answer_says q nodes (No values) agrees differs over = differs values refl
answer_says q nodes (Unknown word bit) agrees differs over = over word bit refl

pub returns : goal.returns
returns g c =
    let says = c.in_ok-equality.ensures in
    let written = c.in_ok-append_equality.ensures in
    record {
      question_is = rw (← c.asked.view_is) c.asked.invariant;
      equality = c.in_ok-equality.equality;
      answers =
          rw (← c.asked.view_is) (answer_says _ c.args.nodes c.in_ok-equality.equality says.yes says.no says.unknown);
      status_is = c.status_of.ensures;
      report_is = rw c.new-report.ensures.items at written;
    }
