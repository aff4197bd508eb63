-- Which operations the instructions of a generated job have: a number gives them, by a value that goes on before each
-- one.
use Rattle.std.specs.Prelude.{ℕ, zero, suc, ◌+◌, ◌*◌, ◌/◌, ◌%◌, ◌^◌, ◌<◌, List, map, if◌then◌else◌, ◌==◌}
use Rattle.std.specs.List.{range_with_len}
use Rattle.mw_cases.specs.declared.operation.Kind.{Kind}
use Rattle.mw_cases.specs.declared.operation.Kind.TheVariants.{Add, Subr, Or, And, Exor}
use Rattle.mw_cases.specs.declared.operation.Operation.{Operation}

-- ---- the value

-- the value after this one
unfoldable pub next_value : ℕ → ℕ
next_value x = (x * 1103515245 + 12345) % 2 ^ 31

-- the value before operation n of all, counted from 0, where it began as the number: it goes on before each one
unfoldable pub value_after : (number n : ℕ) → ℕ
value_after number zero = number
value_after number (suc n) = next_value (value_after number n)

-- what of five a value chooses to be done
abbrev pub kind_of : ℕ → Kind
kind_of x =
    if x / 65536 % 5 == 0 then Add
    else (if x / 65536 % 5 == 1 then Subr
    else (if x / 65536 % 5 == 2 then Or
    else (if x / 65536 % 5 == 3 then And
    else Exor)))

-- the operation that a value chooses, with its registers A and B
unfoldable pub operation_of : ℕ → Operation
operation_of x = record { kind = kind_of x; a = x / 1048576 % 4; b = x / 4194304 % 4 }

-- both registers are among the four
pub record IsOperation (operation : Operation) : Type 0 where
  pub a_below : operation.a < 4
  pub b_below : operation.b < 4

-- ---- the instructions

-- how many operations instruction i has
abbrev pub operation_count : (number i : ℕ) → ℕ
operation_count number i = 1 + (number + i) % 4

-- how many the instructions before it have
unfoldable pub operations_before : (number i : ℕ) → ℕ
operations_before number zero = 0
operations_before number (suc i) = operations_before number i + operation_count number i

-- how many all 256 instructions have together, whatever the number
abbrev pub all_operations : ℕ
all_operations = 640

-- operation j of instruction i, in the order of the instructions and then of their operations
unfoldable pub operation_at : (number i j : ℕ) → Operation
operation_at number i j = operation_of (value_after number (operations_before number i + j + 1))

-- the operations of instruction i, in their order
unfoldable pub instruction_of : (number i : ℕ) → List Operation
instruction_of number i = map (operation_at number i) (range_with_len 0 (operation_count number i))

-- the operations of all 256 instructions
unfoldable pub instructions_of : (number : ℕ) → List (List Operation)
instructions_of number = map (instruction_of number) (range_with_len 0 256)
