-- Laws of the generator.
use Rattle.std.specs.Prelude.{◌≡◌, ℕ, List, [], length, Bool}
use Rattle.mw_macro.specs.DescribedStep.{step_of, kept}
use Rattle.mw_macro.specs.Right.{IsBetween}
use Rattle.mw_rel.specs.Job.{Job}
use Rattle.mw_cases.specs.Described.{generated_machine}
use Rattle.mw_cases.specs.Generated.{IsGenerated}
use Rattle.mw_cases.specs.Operations.{all_operations, operation_count, operations_before, instruction_of}
use Rattle.mw_cases.specs.Steps.{after_operations, instruction_in, counted}

-- whatever the number, the 256 instructions have 640 operations together
abbrev pub OperationsAre640 : Type 0
OperationsAre640 = (number : ℕ) → operations_before number 256 ≡ all_operations

-- and each of them has one to four
abbrev pub OperationsAreFew : Type 0
OperationsAreFew = (number i : ℕ) → IsBetween 1 (operation_count number i) 4

-- one job is generated of a number
abbrev pub JobsAreOne : Type 0
JobsAreOne = (number : ℕ) (job other : Job) → IsGenerated number job → IsGenerated number other → other ≡ job

-- A step of the machine of a number adds 1 to PC and does the operations of the instruction that is read. It leaves the
-- memory as it is, makes no event and takes no input.
abbrev pub StepsDoOperations : Type 0
StepsDoOperations = (number : ℕ) (registers memory : List ℕ) (request : Bool) (inputs : List ℕ) (first : ℕ)
    → length registers ≡ 5
    → step_of (generated_machine number) (record { registers = registers; memory = memory }) request inputs first
    ≡ record {
      state =
          kept (after_operations (instruction_of number (instruction_in registers memory)) (counted registers)) memory;
      events = [];
      taken = 0;
    }
