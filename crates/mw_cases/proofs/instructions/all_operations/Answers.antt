use Rattle.std.proofs.Common.{◌≡◌, ℕ, ◌+◌, List, map, ◌∙◌, ap, ap₂, rules}
use Rattle.std.specs.List.{range_with_len}
use Rattle.mw_cases.specs.declared.operation.Operation.{Operation}
use Rattle.mw_cases.specs.Operations.{value_after, operation_of, operations_before, operation_count, instruction_of}
use Rattle.mw_cases.specs.Operations.{instructions_of}
use Rattle.mw_cases.proofs.Pushed.{pushed}
use Rattle.mw_cases.proofs.Values.{value_on, made_is, before_more}
use Rattle.mw_cases.proofs.instructions.all_operations.Goals as goal

pub loop-instruction-init : goal.loop-instruction-init
unfolding value_after operations_before
loop-instruction-init c = search rules

-- what was pushed is the instruction
made_here : (c : goal.In_ok-push)
    → c.in_ok-operations.field-0 ≡ instruction_of c.args.number c.loop-instruction.instruction
made_here c =
    let from : ℕ → ℕ → List Operation =
    λ x count. map (λ j. operation_of (value_after x (j + 1))) (range_with_len 0 count) in
    c.in_ok-operations.ensures.made
    ∙ ap₂ from c.loop-instruction.invariant.value c.operation_count-count.ensures
    ∙ made_is c.args.number c.loop-instruction.instruction

-- the value has gone on by as many operations
value_here : (c : goal.In_ok-push)
    → c.operations.new.value
    ≡ value_after c.args.number (operations_before c.args.number (c.loop-instruction.instruction + 1))
value_here c =
    c.in_ok-operations.ensures.value
    ∙ ap₂ value_after c.loop-instruction.invariant.value c.operation_count-count.ensures
    ∙ value_on c.args.number (operations_before c.args.number c.loop-instruction.instruction)
    (operation_count c.args.number c.loop-instruction.instruction)
    ∙ ap (value_after c.args.number) (before_more c.args.number c.loop-instruction.instruction)

pub loop-instruction-preserved : goal.loop-instruction-preserved
loop-instruction-preserved c = record {
  made =
      c.in_ok-push.ensures.items
      ∙ pushed (instruction_of c.args.number) c.loop-instruction.instruction c.loop-instruction.instructions.items
      c.in_ok-operations.field-0 c.loop-instruction.invariant.made (made_here c);
  value = value_here c;
  below = c.in_ok-operations.ensures.below;
}

pub returns : goal.returns
unfolding instructions_of
returns c = search rules
