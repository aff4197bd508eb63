-- What a step of a generated machine does to its registers.
use Rattle.std.specs.Prelude.{ℕ, ◌+◌, ◌-◌, ◌%◌, ◌^◌, List, [], ◌∷◌, slice_index, slice_set, bit_and, bit_or, bit_xor}
use Rattle.mw_base.specs.Words.{part}
use Rattle.mw_cases.specs.declared.operation.Kind.{Kind}
use Rattle.mw_cases.specs.declared.operation.Kind.TheVariants.{Add, Subr, Or, And, Exor}
use Rattle.mw_cases.specs.declared.operation.Operation.{Operation}
use Rattle.mw_cases.specs.Described.{counter, register}

-- what a kind makes of two words of 16 bits
abbrev pub made_of : Kind → (a b : ℕ) → ℕ
made_of Add a b = (a + b) % 2 ^ 16
made_of Subr a b = (b + (2 ^ 16 - a)) % 2 ^ 16
made_of Or a b = bit_or a b
made_of And a b = bit_and a b
made_of Exor a b = bit_xor a b

-- the registers after an operation
abbrev pub after_operation : Operation → List ℕ → List ℕ
after_operation operation registers =
    slice_set registers (register operation.b)
    (made_of operation.kind (slice_index registers (register operation.a))
    (slice_index registers (register operation.b)))

-- and after some, each in its turn
abbrev pub after_operations : List Operation → List ℕ → List ℕ
after_operations [] registers = registers
after_operations (operation ∷ rest) registers = after_operations rest (after_operation operation registers)

-- the instruction in the high byte of the word at PC's low byte
abbrev pub instruction_in : (registers memory : List ℕ) → ℕ
instruction_in registers memory = part 8 8 (slice_index memory (part 0 8 (slice_index registers counter)))

-- the registers with 1 added to PC
abbrev pub counted : List ℕ → List ℕ
counted registers = slice_set registers counter ((slice_index registers counter + 1) % 2 ^ 16)
