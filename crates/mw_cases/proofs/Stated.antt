-- The statements of the described machine keep the rules of machines, whatever the number.
use Rattle.std.proofs.Common.{◌≡◌, ℕ, zero, suc, ◌+◌, ◌-◌, ◌*◌, ◌^◌, ◌<◌, ◌≤◌, List, [], ◌∷◌, map, length, Bool, true}
use Rattle.std.proofs.Common.{refl, arith}
use Rattle.std.specs.Prelude.{All, ◌&&◌, nat_lt, nat_le, slice_index}
use Rattle.std.specs.List.{list_all}
use Rattle.std.proofs.Math.Nat.{pow-suc}
use Rattle.std.proofs.lemmas.Bool.{and_parts}
use Rattle.std.proofs.lemmas.Bool.Decides.{nat_tests}
use Rattle.mw_expr.specs.Tree.{element, part}
use Rattle.mw_expr.specs.Widths.{width_of}
use Rattle.mw_macro.specs.declared.counts.Counted.TheVariants.{Statements, Reads}
use Rattle.mw_macro.specs.Counts.{reads, total}
use Rattle.mw_macro.specs.Right.{is_asked, is_right, are_right, nesting_in}
use Rattle.mw_macro.specs.Statements.{acts_of}
use Rattle.mw_cases.specs.declared.operation.Kind.{Kind}
use Rattle.mw_cases.specs.declared.operation.Kind.TheVariants.{Add, Subr, Or, And, Exor}
use Rattle.mw_cases.specs.declared.operation.Operation.{Operation}
use Rattle.mw_cases.specs.Described.{generated_shape, register, word_read, outcome_of, act_of, choice_of}
use Rattle.mw_cases.specs.Operations.{instruction_of, IsOperation}
use Rattle.mw_cases.proofs.Values.{instruction_length, instruction_registers}
use Rattle.mw_macro.proofs.Accepted.{both}

-- ---- how much there is

-- an operation reads no memory
no_reads : (kind : Kind) (a b : ℕ) → reads (outcome_of kind a b) ≡ 0
no_reads Add a b = refl
no_reads Subr a b = refl
no_reads Or a b = refl
no_reads And a b = refl
no_reads Exor a b = refl

-- each operation is a statement
statements_of : (operations : List Operation) → total Statements (acts_of (map act_of operations)) ≡ length operations
statements_of [] = refl
statements_of (operation ∷ rest) = omega (arith, statements_of rest)

reads_of : (operations : List Operation) → total Reads (acts_of (map act_of operations)) ≡ 0
reads_of [] = refl
reads_of (operation ∷ rest) =
    omega (arith, no_reads operation.kind operation.a operation.b, reads_of rest)

-- a choice among instructions has an `if` less than instructions, and at most four statements for each
pub choice_statements : (number bits first : ℕ) → total Statements (choice_of number bits first) + 1 ≤ 5 * 2 ^ bits
unfolding choice_of
choice_statements number zero first =
    omega (arith, statements_of (instruction_of number first), instruction_length number first)
choice_statements number (suc bits) first =
    omega (arith, choice_statements number bits (first + 2 ^ bits), choice_statements number bits first, pow-suc 2 bits)

pub choice_reads : (number bits first : ℕ) → total Reads (choice_of number bits first) ≡ 0
unfolding choice_of
choice_reads number zero first = reads_of (instruction_of number first)
choice_reads number (suc bits) first =
    omega (arith, choice_reads number bits (first + 2 ^ bits), choice_reads number bits first)

-- ---- widths

-- what an operation makes is as wide as the register that takes it
abbrev is_outcome : Kind → ℕ → ℕ → Bool
is_outcome kind a b =
    is_asked (slice_index generated_shape.widths (register b)) (width_of generated_shape (outcome_of kind a b))

-- the numbers of the four registers
abbrev numbers : List ℕ
numbers = 0 ∷ 1 ∷ 2 ∷ 3 ∷ []

-- what holds of each of them
holds : (p : ℕ → Bool) → list_all p numbers ≡ true → (n : ℕ) → n < 4 → p n ≡ true
holds p all zero below = (and_parts (p 0) _ all).0
holds p all (suc zero) below = (and_parts (p 1) _ (and_parts (p 0) _ all).1).0
holds p all (suc (suc zero)) below = (and_parts (p 2) _ (and_parts (p 1) _ (and_parts (p 0) _ all).1).1).0
holds p all (suc (suc (suc zero))) below =
    let behind_0 = (and_parts (p 0) _ all).1 in
    let behind_1 = (and_parts (p 1) (p 2 && (p 3 && true)) behind_0).1 in
    (and_parts (p 3) true (and_parts (p 2) (p 3 && true) behind_1).1).0
holds p all (suc (suc (suc (suc n)))) below = absurd (omega arith)

-- what holds of each two of them
both_hold : (p : ℕ → ℕ → Bool) → list_all (λ a. list_all (p a) numbers) numbers ≡ true
    → (a b : ℕ) → a < 4 → b < 4 → p a b ≡ true
both_hold p all a b a_below b_below = holds (p a) (holds (λ a. list_all (p a) numbers) all a a_below) b b_below

outcome_right : (kind : Kind) (a b : ℕ) → a < 4 → b < 4 → is_outcome kind a b ≡ true
unfolding width_of
outcome_right Add a b a_below b_below = both_hold (is_outcome Add) refl a b a_below b_below
outcome_right Subr a b a_below b_below = both_hold (is_outcome Subr) refl a b a_below b_below
outcome_right Or a b a_below b_below = both_hold (is_outcome Or) refl a b a_below b_below
outcome_right And a b a_below b_below = both_hold (is_outcome And) refl a b a_below b_below
outcome_right Exor a b a_below b_below = both_hold (is_outcome Exor) refl a b a_below b_below

-- so is a target
target_right : (b : ℕ) → b < 4 → nat_lt (register b + 1) (length generated_shape.widths) ≡ true
target_right b below = grind (arith, nat_tests)

operation_right : (operation : Operation) → IsOperation operation → is_right generated_shape (act_of operation) ≡ true
operation_right operation is =
    both _ _ (target_right operation.b is.b_below)
    (outcome_right operation.kind operation.a operation.b is.a_below is.b_below)

operations_right : (operations : List Operation) → All IsOperation operations
    → are_right generated_shape (acts_of (map act_of operations)) ≡ true
operations_right [] all = refl
operations_right (operation ∷ rest) all =
    both _ _ (operation_right operation (all 0 operation (omega arith)))
    (operations_right rest (λ k d within. all (suc k) d (omega (arith, within))))

-- the bit of the word is there
bit_right : (bits : ℕ) → bits < 8
    → is_asked 1 (width_of generated_shape (part (element word_read) (8 + bits) (8 + bits))) ≡ true
unfolding width_of
bit_right bits below =
    let same : 8 + bits - (8 + bits) + 1 ≡ 1 = omega arith in
    let le : nat_le (8 + bits) (8 + bits) ≡ true = grind (arith, nat_tests) in
    let lt : nat_lt (8 + bits) 16 ≡ true = grind (arith, nat_tests) in
    rw (le, lt, same) refl

pub choice_right : (number bits first : ℕ) → bits ≤ 8 → are_right generated_shape (choice_of number bits first) ≡ true
unfolding choice_of
choice_right number zero first few = operations_right (instruction_of number first) (instruction_registers number first)
choice_right number (suc bits) first few =
    both _ _ (both _ _ (bit_right bits (omega arith))
    (both _ _ (choice_right number bits (first + 2 ^ bits) (omega arith))
    (choice_right number bits first (omega arith))))
    refl

-- ---- nesting

operations_flat : (operations : List Operation) → nesting_in (acts_of (map act_of operations)) ≡ 0
operations_flat [] = refl
operations_flat (operation ∷ rest) = omega (arith, operations_flat rest)

pub choice_nesting : (number bits first : ℕ) → nesting_in (choice_of number bits first) ≤ bits
unfolding choice_of
choice_nesting number zero first = omega (arith, operations_flat (instruction_of number first))
choice_nesting number (suc bits) first =
    omega (arith, choice_nesting number bits (first + 2 ^ bits), choice_nesting number bits first)
