-- The described machine of a generated job.
use Rattle.std.specs.Prelude.{ℕ, zero, suc, ◌+◌, ◌^◌, List, [], ◌∷◌, codes, map}
use Rattle.mw_expr.specs.declared.expr.Pair2.{Pair2}
use Rattle.mw_expr.specs.declared.expr.Pair2.TheVariants as signs
use Rattle.mw_expr.specs.declared.shape.Shape.{Shape}
use Rattle.mw_expr.specs.Tree.{Tree, element, constant, pair, part, memory}
use Rattle.mw_macro.specs.Machine.{Description, described}
use Rattle.mw_macro.specs.Statements.{Act, assign, choose, Acts, nothing, next, acts_of}
use Rattle.mw_cases.specs.declared.operation.Kind.{Kind}
use Rattle.mw_cases.specs.declared.operation.Kind.TheVariants.{Add, Subr, Or, And, Exor}
use Rattle.mw_cases.specs.declared.operation.Operation.{Operation}
use Rattle.mw_cases.specs.Operations.{instruction_of}

-- the registers, and behind them the one temporary, for the word that is read
abbrev pub generated_names : List (List ℕ)
generated_names = codes "PC" ∷ codes "A0" ∷ codes "A1" ∷ codes "A2" ∷ codes "A3" ∷ codes "W" ∷ []

-- all of 16 bits, and the request of one; a memory of 256 words of 16 bits
abbrev pub generated_shape : Shape
generated_shape = record { widths = 16 ∷ 16 ∷ 16 ∷ 16 ∷ 16 ∷ 16 ∷ 1 ∷ []; address = 8; word = 16 }

-- PC's number among the elements
abbrev pub counter : ℕ
counter = 0

-- those of A0 to A3
abbrev pub register : ℕ → ℕ
register n = 1 + n

-- that of the word read
abbrev pub word_read : ℕ
word_read = 5

-- ---- operations

-- the sign of a kind
abbrev pub sign_of : Kind → Pair2
sign_of Add = signs.Add
sign_of Subr = signs.Sub
sign_of Or = signs.Or
sign_of And = signs.And
sign_of Exor = signs.Xor

-- what a kind makes of two registers: SUBR takes A from B
abbrev pub outcome_of : Kind → (a b : ℕ) → Tree
outcome_of Subr a b = pair (sign_of Subr) (element (register b)) (element (register a))
outcome_of kind a b = pair (sign_of kind) (element (register a)) (element (register b))

-- register B takes it
abbrev pub act_of : Operation → Act
act_of operation = assign (register operation.b) (outcome_of operation.kind operation.a operation.b)

-- ---- the step

-- The acts of the 2 ^ bits instructions from the first on. Bit 7 + bits of the word chooses the second half of them
-- where it is 1, and else the first half, and so on down to bit 8.
unfoldable pub choice_of : (number bits first : ℕ) → Acts
choice_of number zero first = acts_of (map act_of (instruction_of number first))
choice_of number (suc bits) first =
    next (choose (part (element word_read) (8 + bits) (8 + bits))
    (choice_of number bits (first + 2 ^ bits))
    (choice_of number bits first)) nothing

-- the word at PC's low byte is read
abbrev pub reading : Act
reading = assign word_read (memory (part (element counter) 7 0))

-- 1 is added to PC
abbrev pub counting : Act
counting = assign counter (pair signs.Add (element counter) (constant 1 16))

-- The machine of a number: its step reads a word, adds 1 to PC, and does the operations of the instruction in the
-- word's high byte.
unfoldable pub generated_machine : ℕ → Description
generated_machine number =
    described generated_names 5 generated_shape (next reading (next counting (choice_of number 8 0)))
