use Rattle.std.proofs.Common.{◌≡◌, ◌<◌, ◌^◌, map}
use Rattle.std.specs.List.{range_with_len}
use Rattle.mw_cases.specs.Operations.{value_after, operations_before, instruction_of}
use Rattle.mw_cases.proofs.instructions.all_operations.Given as goal

abbrev pub invariant-loop-instruction : goal.invariant-loop-instruction
invariant-loop-instruction l = record {
  made : l.instructions.items ≡ map (instruction_of l.number) (range_with_len 0 l.instruction);
  value : l.value ≡ value_after l.number (operations_before l.number l.instruction);
  below : l.value < 2 ^ 31;
}
