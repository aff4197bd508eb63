-- What stands at the addresses of a job's microprogram.
use Rattle.std.proofs.Common.{◌≡◌, ℕ, ◌+◌, ◌*◌, ◌<◌, ◌≤◌, ◌^◌, List, length, refl, subst, ap, ◌∙◌, inl, inr, arith}
use Rattle.std.specs.Prelude.{IfSome, Some, slice_get, ◌==◌}
use Rattle.std.proofs.lemmas.Bool.{cases_lt}
use Rattle.std.proofs.lemmas.List.{get_or_past}
use Rattle.std.proofs.lemmas.Option.{slice_get-get_or}
use Rattle.mw_board.specs.Store.{word_at}
use Rattle.mw_rel.specs.Job.{Job}
use Rattle.mw_cases.specs.declared.operation.Operation.{Operation}
use Rattle.mw_cases.specs.Board.{generated_board}
use Rattle.mw_cases.specs.Generated.{IsGenerated}
use Rattle.mw_cases.specs.Operations.{operation_at, operation_count, instruction_of}
use Rattle.mw_cases.specs.Words.{choices_of, choices_at, operating, operating_at, IsWordAt}
use Rattle.mw_cases.proofs.Values.{instruction_length, operation_is}

-- ---- words of instructions

-- the operation at a place of an instruction
there_is : (number i j : ℕ) → j < operation_count number i
    → slice_get (instruction_of number i) j ≡ Some (operation_at number i j)
there_is number i j below =
    let within : j < length (instruction_of number i) = rw (instruction_length number i) below in
    slice_get-get_or (instruction_of number i) j (operation_at number i j) within
    ∙ ap Some (operation_is number i j (operation_at number i j) below)

-- the word of a place of an instruction is that of the operation there
pub operating_is : (number i j place word : ℕ) (operations : List Operation) → operations ≡ instruction_of number i
    → place ≡ j → j < operation_count number i
    → IfSome (slice_get operations place) (λ operation.
    choices_of generated_board word ≡ operating operation (place + 1 == length operations))
    → choices_of generated_board word ≡ operating_at number i j
operating_is number i j place word operations are is below chooses =
    let here = rw (is, are, there_is number i j below, instruction_length number i) at chooses in
    here

-- ---- words of the whole job

-- the board's fill word is 0
fills : generated_board.fill ≡ 0
unfolding generated_board
fills = refl

-- the word at an address stands there
pub stands : (number : ℕ) (job : Job) → IsGenerated number job → (address : ℕ) → address < 1040
    → IsWordAt number address (word_at generated_board job.store address)
stands number job is address below = rw fills (is.store.words address below)

pub chooses_at : (number : ℕ) (job : Job) → IsGenerated number job → (i j : ℕ) → i < 256 → j < operation_count number i
    → choices_at job (16 + 4 * i + j) ≡ operating_at number i j
chooses_at number job is i j i_below j_below =
    let within : 16 + 4 * i + j < 1040 = omega arith in
    rw is.board ((stands number job is (16 + 4 * i + j) within).operating i j i_below j_below refl)

-- past the end it is the fill word
past : (number : ℕ) (job : Job) → IsGenerated number job → (address : ℕ) → 1040 ≤ address
    → word_at generated_board job.store address ≡ 0
past number job is address from =
    let beyond : length job.store ≤ address = rw is.store.count from in
    get_or_past job.store address generated_board.fill beyond ∙ fills

-- each is a microword
pub words_are : (number : ℕ) (job : Job) → IsGenerated number job → (address : ℕ)
    → word_at job.board job.store address < 2 ^ 38
words_are number job is address =
    rw is.board (elim (cases_lt address 1040) [
      | inl below ↦ (stands number job is address below).below
      | inr from ↦ rw (past number job is address from) (omega arith)
    ])

-- what is so of a number is so of its equal
pub of_number : (number other : ℕ) (job : Job) → number ≡ other → IsGenerated number job → IsGenerated other job
of_number number other job same is = subst (λ n. IsGenerated n job) same is
