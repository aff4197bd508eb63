use Rattle.std.proofs.Common.{◌≡◌, ◌+◌, ◌∙◌, ◌<◌, ap, ap₂, refl, arith, length}
use Rattle.mw_cases.specs.Operations.{operations_before, operation_count}
use Rattle.mw_cases.proofs.Values.{stands_there, instruction_count, instruction_length, before_more}
use Rattle.mw_cases.proofs.Counts.{before_few}
use Rattle.mw_cases.proofs.instructions.Instructions.operation_total.Goals as goal

pub loop-operations-init : goal.loop-operations-init
unfolding operations_before
loop-operations-init c = refl

-- there are 256 instructions
count_is : (c : goal.After-as_slice) → length c.deref-operations-items.result.now ≡ 256
count_is c =
    ap length (c.deref-operations-items.ensures.value ∙ c.args.self.now.are_of_number)
    ∙ instruction_count c.args.self.now.number

-- and this one has its operations
length_is : (c : goal.After-as_slice)
    → length c.as_slice.result.now ≡ operation_count c.args.self.now.number c.loop-operations.operations-index
length_is c =
    let self = c.args.self.now in
    let i = c.loop-operations.operations-index in
    let below : i < 256 = omega (arith, count_is c) in
    ap length (c.as_slice.ensures
    ∙ stands_there self.number i c.deref-operations-items.result.now _
    (c.deref-operations-items.ensures.value ∙ self.are_of_number) below c.operations-item.is)
    ∙ instruction_length self.number i

pub overflow_cast-total : goal.overflow_cast-total
overflow_cast-total c = omega (arith, length_is c)

pub overflow_add-total : goal.overflow_add-total
overflow_add-total c =
    omega (
      arith,
      length_is c,
      count_is c,
      c.loop-operations.invariant,
      before_few c.args.self.now.number c.loop-operations.operations-index,
    )

pub loop-operations-preserved : goal.loop-operations-preserved
loop-operations-preserved c =
    ap₂ (λ m n. m + n) c.loop-operations.invariant (length_is c)
    ∙ before_more c.args.self.now.number c.loop-operations.operations-index

pub returns : goal.returns
returns c =
    let count : length c.deref-operations-items.result.now ≡ 256 =
    ap length (c.deref-operations-items.ensures.value ∙ c.args.self.now.are_of_number)
    ∙ instruction_count c.args.self.now.number in
    c.loop-operations.invariant ∙ ap (operations_before c.args.self.now.number) (omega arith)
