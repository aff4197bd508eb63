use Rattle.std.proofs.Common.{◌≡◌, ◌+◌, ◌∙◌, ap, rules}
use Rattle.mw_cases.specs.Operations.{value_after, operation_of, next_value}
use Rattle.mw_cases.proofs.Pushed.{pushed}
use Rattle.mw_cases.proofs.Values.{value_more}
use Rattle.mw_cases.proofs.instructions.operations.Goals as goal

pub loop-init : goal.loop-init
unfolding value_after
loop-init c = search rules

-- the value has gone on once more
value_is : (c : goal.In_ok-push) → c.next_value.result ≡ value_after c.args.value.now (c.loop.counter + 1)
value_is c =
    c.next_value.ensures.exact ∙ ap next_value c.loop.invariant.value ∙ value_more c.args.value.now c.loop.counter

pub loop-preserved : goal.loop-preserved
loop-preserved c = record {
  made =
      c.in_ok-push.ensures.items
      ∙ pushed (λ j. operation_of (value_after c.args.value.now (j + 1))) c.loop.counter c.loop.operations.items
      c.chosen_by.result c.loop.invariant.made (c.chosen_by.ensures.exact ∙ ap operation_of (value_is c));
  value = value_is c;
  below = c.next_value.ensures.below;
}
