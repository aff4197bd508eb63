-- The value goes on.
use Rattle.std.proofs.Common.{◌≡◌, ℕ, zero, suc, ◌+◌, ◌<◌, List, length, map, slice_index_or, subst, sym, ap, ◌∙◌}
use Rattle.std.proofs.Common.{arith}
use Rattle.std.specs.Prelude.{All}
use Rattle.std.proofs.lemmas.List.FromFn.{length-map-range_with_len, get_or-map-range_with_len}
use Rattle.std.specs.List.{range_with_len}
use Rattle.mw_cases.specs.declared.operation.Operation.{Operation}
use Rattle.mw_cases.specs.Operations.{next_value, value_after, operation_of, operations_before, operation_count}
use Rattle.mw_cases.specs.Operations.{operation_at, instruction_of, instructions_of, IsOperation}

-- after some operations, and then after more
pub value_on : (number m n : ℕ) → value_after (value_after number m) n ≡ value_after number (m + n)
unfolding value_after
value_on number m zero = ap (value_after number) (omega arith)
value_on number m (suc n) =
    ap next_value (value_on number m n) ∙ ap (value_after number) (let e : suc (m + n) ≡ m + suc n = omega arith in e)

-- and after one more
pub value_more : (number n : ℕ) → next_value (value_after number n) ≡ value_after number (n + 1)
unfolding value_after
value_more number n = ap (value_after number) (let e : suc n ≡ n + 1 = omega arith in e)

-- two functions that are equal at each number give one list
same_map : {A : Type 0} (f g : ℕ → A) → ((j : ℕ) → f j ≡ g j) → (xs : List ℕ) → map f xs ≡ map g xs
same_map f g same xs = ap (λ h. map h xs) (λ i j. same j i)

-- ---- the instructions

-- an instruction more has been counted
pub before_more : (number i : ℕ)
    → operations_before number i + operation_count number i ≡ operations_before number (i + 1)
unfolding operations_before
before_more number i = ap (operations_before number) (let e : suc i ≡ i + 1 = omega arith in e)

-- the operations that a value goes on to are those of the instruction before which it stands
pub made_is : (number i : ℕ)
    → map (λ j. operation_of (value_after (value_after number (operations_before number i)) (j + 1)))
    (range_with_len 0 (operation_count number i)) ≡ instruction_of number i
unfolding operation_at instruction_of
made_is number i =
    same_map _ (operation_at number i)
    (λ j.
    ap operation_of (value_on number (operations_before number i) (j + 1) ∙ ap (value_after number) (omega arith)))
    (range_with_len 0 (operation_count number i))

-- an instruction has as many operations as it should
pub instruction_length : (number i : ℕ) → length (instruction_of number i) ≡ operation_count number i
unfolding instruction_of
instruction_length number i = length-map-range_with_len (operation_at number i) 0 (operation_count number i)

-- the instruction with a number
pub instruction_is : (number i : ℕ) (d : List Operation) → i < 256
    → slice_index_or (instructions_of number) i d ≡ instruction_of number i
unfolding instructions_of
instruction_is number i d below = get_or-map-range_with_len (instruction_of number) 0 256 i i d below (omega arith)

-- there are 256
pub instruction_count : (number : ℕ) → length (instructions_of number) ≡ 256
unfolding instructions_of
instruction_count number = length-map-range_with_len (instruction_of number) 0 256

-- a value chooses registers among the four
pub chosen_registers : (x : ℕ) → IsOperation (operation_of x)
unfolding operation_of
chosen_registers x = record { a_below = omega arith; b_below = omega arith }

-- so does each operation
pub registers_at : (number i j : ℕ) → IsOperation (operation_at number i j)
unfolding operation_at
registers_at number i j = chosen_registers (value_after number (operations_before number i + j + 1))

-- an operation of an instruction
pub operation_is : (number i j : ℕ) (d : Operation) → j < operation_count number i
    → slice_index_or (instruction_of number i) j d ≡ operation_at number i j
unfolding instruction_of
operation_is number i j d below =
    get_or-map-range_with_len (operation_at number i) 0 (operation_count number i) j j d below (omega arith)

-- all operations of an instruction have registers among the four
pub instruction_registers : (number i : ℕ) → All IsOperation (instruction_of number i)
instruction_registers number i k d within =
    let below : k < operation_count number i = rw (instruction_length number i) at within in
    subst IsOperation (sym (operation_is number i k d below)) (registers_at number i k)

-- what stands in the list of a number's instructions
pub stands_there : (number i : ℕ) (all : List (List Operation)) (item : List Operation) → all ≡ instructions_of number
    → i < 256 → item ≡ slice_index_or all i item → item ≡ instruction_of number i
stands_there number i all item are below is =
    is ∙ ap (λ (xs : List (List Operation)). slice_index_or xs i item) are ∙ instruction_is number i item below
