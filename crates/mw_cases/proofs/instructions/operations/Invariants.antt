use Rattle.std.proofs.Common.{◌≡◌, ◌+◌, ◌<◌, ◌^◌, map}
use Rattle.std.specs.List.{range_with_len}
use Rattle.mw_cases.specs.Operations.{value_after, operation_of}
use Rattle.mw_cases.proofs.instructions.operations.Given as goal

abbrev pub invariant-loop : goal.invariant-loop
invariant-loop l = record {
  made : l.operations.items ≡ map (λ j. operation_of (value_after l.fn.value (j + 1))) (range_with_len 0 l.counter);
  value : l.value ≡ value_after l.fn.value l.counter;
  below : l.value < 2 ^ 31;
}
