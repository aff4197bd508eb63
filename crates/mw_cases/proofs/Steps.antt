-- What a step of a generated machine does.
use Rattle.std.proofs.Common.{◌≡◌, ℕ, zero, suc, ◌+◌, ◌-◌, ◌*◌, ◌/◌, ◌%◌, ◌^◌, ◌<◌, List, [], ◌∷◌, ◌++◌, map, length}
use Rattle.std.proofs.Common.{Bool, true, false, refl, sym, ap, ◌∙◌, append_assoc, add_assoc, zero-add, arith}
use Rattle.std.specs.Prelude.{All, take, slice_index, slice_set, ◌==◌, if◌then◌else◌}
use Rattle.std.proofs.lemmas.List.{get_or_append_left, set-append_left, length-set}
use Rattle.std.proofs.lemmas.Nat.{mod-pow-add, shr-shr}
use Rattle.std.proofs.lemmas.Bool.Decides.{nat_tests}
use Rattle.std.proofs.Math.Seq.{get_or-append_seam, set-append_seam, take-append_seam}
use Rattle.mw_base.specs.Words.{num, part}
use Rattle.mw_base.specs.declared.event.Event.{Event}
use Rattle.mw_expr.specs.Tree.{element}
use Rattle.mw_expr.specs.Values.{bits, value}
use Rattle.mw_macro.specs.DescribedStep.{Now, now, after, after_all, Stepped, ended, kept, step_of}
use Rattle.mw_macro.specs.Statements.{acts_of}
use Rattle.mw_cases.specs.declared.operation.Kind.{Kind}
use Rattle.mw_cases.specs.declared.operation.Kind.TheVariants.{Add, Subr, Or, And, Exor}
use Rattle.mw_cases.specs.declared.operation.Operation.{Operation}
use Rattle.mw_cases.specs.Described.{generated_shape, generated_machine, register, outcome_of, act_of, choice_of}
use Rattle.mw_cases.specs.Described.{reading, counting}
use Rattle.mw_cases.specs.Laws.{StepsDoOperations}
use Rattle.mw_cases.specs.Steps.{made_of, after_operation, after_operations, counted}
use Rattle.mw_cases.specs.Operations.{instruction_of, IsOperation}
use Rattle.mw_cases.proofs.Values.{instruction_registers}

-- ---- operations

-- a register has 16 bits
sixteen : (n : ℕ) → n < 4 → bits generated_shape (element (register n)) ≡ 16
sixteen zero below = refl
sixteen (suc zero) below = refl
sixteen (suc (suc zero)) below = refl
sixteen (suc (suc (suc zero))) below = refl
sixteen (suc (suc (suc (suc n)))) below = absurd (omega arith)

module _ (registers others memory : List ℕ) (five : length registers ≡ 5) where
  -- the value of a register
  register_is : (n : ℕ) → n < 4 → slice_index (registers ++ others) (register n) ≡ slice_index registers (register n)
  register_is n below =
      let within : register n < length registers = omega arith in
      get_or_append_left registers others 0 (register n) within

  -- what an operation makes
  outcome_is : (kind : Kind) (a b : ℕ) → a < 4 → b < 4
      → value generated_shape (registers ++ others) memory (outcome_of kind a b)
      ≡ made_of kind (slice_index registers (register a)) (slice_index registers (register b))
  outcome_is Add a b a_below b_below = rw (register_is a a_below, register_is b b_below, sixteen a a_below) refl
  outcome_is Subr a b a_below b_below = rw (register_is a a_below, register_is b b_below, sixteen b b_below) refl
  outcome_is Or a b a_below b_below = rw (register_is a a_below, register_is b b_below) refl
  outcome_is And a b a_below b_below = rw (register_is a a_below, register_is b b_below) refl
  outcome_is Exor a b a_below b_below = rw (register_is a a_below, register_is b b_below) refl

  -- what there is after it
  operation_done : (inputs : List ℕ) (first : ℕ) (events : List Event) (taken : ℕ) (operation : Operation)
      → IsOperation operation
      → after generated_shape inputs first (act_of operation) (now (registers ++ others) memory events taken)
      ≡ now (after_operation operation registers ++ others) memory events taken
  operation_done inputs first events taken operation is =
      let within : register operation.b < length registers = omega (arith, is.b_below) in
      ap (λ values. now values memory events taken)
      (ap (slice_set (registers ++ others) (register operation.b))
      (outcome_is operation.kind operation.a operation.b is.a_below is.b_below)
      ∙ set-append_left registers others (register operation.b)
      (made_of operation.kind (slice_index registers (register operation.a))
      (slice_index registers (register operation.b)))
      within)

-- there are five registers still
still_five : (operations : List Operation) (registers : List ℕ)
    → length (after_operations operations registers) ≡ length registers
still_five [] registers = refl
still_five (operation ∷ rest) registers =
    still_five rest (after_operation operation registers) ∙ length-set registers (register operation.b) _

-- what there is after operations
operations_done : (others memory inputs : List ℕ) (first : ℕ) (events : List Event) (taken : ℕ)
    (operations : List Operation)
    → All IsOperation operations → (registers : List ℕ) → length registers ≡ 5
    → after_all generated_shape inputs first (acts_of (map act_of operations))
    (now (registers ++ others) memory events taken)
    ≡ now (after_operations operations registers ++ others) memory events taken
operations_done others memory inputs first events taken [] all registers five = refl
operations_done others memory inputs first events taken (operation ∷ rest) all registers five =
    ap (after_all generated_shape inputs first (acts_of (map act_of rest)))
    (operation_done registers others memory five inputs first events taken operation (all 0 operation (omega arith)))
    ∙ operations_done others memory inputs first events taken rest (λ k d within. all (suc k) d (omega (arith, within)))
    (after_operation operation registers) (still_five (operation ∷ []) registers ∙ five)

-- ---- the choice

-- the word read stands behind the registers
read_is : (registers : List ℕ) (word : ℕ) (others : List ℕ) → length registers ≡ 5
    → slice_index (registers ++ word ∷ others) 5 ≡ word
read_is registers word others five =
    ap (λ n. slice_index (registers ++ word ∷ others) n) (sym five) ∙ get_or-append_seam registers word others 0

-- a bit stands above the bits below it
one_more : (word bits high : ℕ) → word / 2 ^ (8 + bits) % 2 * 2 ^ bits ≡ high
    → high + word / 2 ^ 8 % 2 ^ bits ≡ word / 2 ^ 8 % 2 ^ suc bits
one_more word bits high is =
    let same : 1 + bits ≡ suc bits = omega arith in
    let split = rw same at (mod-pow-add (word / 2 ^ 8) 1 bits) in
    let place : word / 2 ^ 8 / 2 ^ bits ≡ word / 2 ^ (8 + bits) = shr-shr word 8 bits in
    rw (split, place, is) refl

bit_set : (n power : ℕ) → (n % 2 == 1) ≡ true → n % 2 * power ≡ power
bit_set n power set =
    let one : n % 2 ≡ 1 = grind (arith, nat_tests) in
    rw one (omega arith)

bit_clear : (n power : ℕ) → (n % 2 == 1) ≡ false → n % 2 * power ≡ 0
bit_clear n power clear =
    let none : n % 2 ≡ 0 = grind (arith, nat_tests) in
    rw none (omega arith)

-- the one that a test chooses
by_test : (test : Bool) (one other outcome : Now) → (test ≡ true → one ≡ outcome) → (test ≡ false → other ≡ outcome)
    → (if test then one else other) ≡ outcome
by_test true one other outcome first second = first refl
by_test false one other outcome first second = second refl

module _ (number : ℕ) (memory inputs : List ℕ) (start : ℕ) (events : List Event) (taken word : ℕ)
    (others registers : List ℕ)
    (five : length registers ≡ 5) where
  -- what there is after an instruction
  done : ℕ → Now
  done i = now (after_operations (instruction_of number i) registers ++ word ∷ others) memory events taken

  bit_is : (bits : ℕ)
      → part (8 + bits) (8 + bits - (8 + bits) + 1) (slice_index (registers ++ word ∷ others) 5)
      ≡ word / 2 ^ (8 + bits) % 2
  bit_is bits =
      let same : 8 + bits - (8 + bits) + 1 ≡ 1 = omega arith in
      rw (same, read_is registers word others five) refl

  choice_done : (bits first : ℕ)
      → after_all generated_shape inputs start (choice_of number bits first)
      (now (registers ++ word ∷ others) memory events taken)
      ≡ done (first + word / 2 ^ 8 % 2 ^ bits)
  unfolding choice_of done
  choice_done zero first =
      let same : first + word / 2 ^ 8 % 1 ≡ first = omega arith in
      rw same (operations_done (word ∷ others) memory inputs start events taken (instruction_of number first)
      (instruction_registers number first) registers five)
  choice_done (suc bits) first =
      let lower = word / 2 ^ 8 % 2 ^ bits in
      rw (bit_is bits) (by_test (word / 2 ^ (8 + bits) % 2 == 1) _ _ _
      (λ set.
      choice_done bits (first + 2 ^ bits)
      ∙ ap done (add_assoc first (2 ^ bits) lower
      ∙ ap (λ n. first + n) (one_more word bits (2 ^ bits) (bit_set (word / 2 ^ (8 + bits)) (2 ^ bits) set))))
      (λ clear.
      choice_done bits first
      ∙ ap (λ n. done (first + n)) (sym (zero-add lower)
      ∙ one_more word bits 0 (bit_clear (word / 2 ^ (8 + bits)) (2 ^ bits) clear))))

-- ---- the step

module _ (registers memory inputs : List ℕ) (first request : ℕ) (five : length registers ≡ 5) where
  -- the word at PC's low byte
  word_at_pc : ℕ
  word_at_pc = slice_index memory (part 0 8 (slice_index registers 0))

  read_done : after generated_shape inputs first reading (now (registers ++ 0 ∷ request ∷ []) memory [] 0)
      ≡ now (registers ++ word_at_pc ∷ request ∷ []) memory [] 0
  unfolding word_at_pc
  read_done =
      let within : 0 < length registers = omega arith in
      ap (λ values. now values memory [] 0)
      (ap (λ pc. slice_set (registers ++ 0 ∷ request ∷ []) 5 (slice_index memory (part 0 8 pc)))
      (get_or_append_left registers (0 ∷ request ∷ []) 0 0 within)
      ∙ ap (λ n. slice_set (registers ++ 0 ∷ request ∷ []) n word_at_pc) (sym five)
      ∙ set-append_seam registers 0 (request ∷ []) word_at_pc)

  count_done : (word : ℕ)
      → after generated_shape inputs first counting (now (registers ++ word ∷ request ∷ []) memory [] 0)
      ≡ now (counted registers ++ word ∷ request ∷ []) memory [] 0
  count_done word =
      let within : 0 < length registers = omega arith in
      ap (λ values. now values memory [] 0)
      (ap (λ pc. slice_set (registers ++ word ∷ request ∷ []) 0 ((pc + 1) % 2 ^ 16))
      (get_or_append_left registers (word ∷ request ∷ []) 0 0 within)
      ∙ set-append_left registers (word ∷ request ∷ []) 0 ((slice_index registers 0 + 1) % 2 ^ 16) within)

  -- what there is before the choice
  prepared : after generated_shape inputs first counting (after generated_shape inputs first reading
      (now ((registers ++ 0 ∷ []) ++ request ∷ []) memory [] 0))
      ≡ now (counted registers ++ word_at_pc ∷ request ∷ []) memory [] 0
  prepared =
      let begins = ap (λ values. now values memory [] 0) (append_assoc registers (0 ∷ []) (request ∷ [])) in
      ap (after generated_shape inputs first counting)
      (ap (after generated_shape inputs first reading) begins ∙ read_done)
      ∙ count_done word_at_pc

-- the temporary and the request are forgotten
ends : (number : ℕ) (registers others memory : List ℕ) → length registers ≡ 5
    → ended (generated_machine number) (now (registers ++ others) memory [] 0)
    ≡ record { state = kept registers memory; events = []; taken = 0 }
unfolding generated_machine
ends number registers others memory five =
    let leaves : List ℕ → Stepped = λ left. record { state = kept left memory; events = []; taken = 0 } in
    ap leaves (ap (λ n. take n (registers ++ others)) (sym five) ∙ take-append_seam registers others)

pub steps_do_operations : StepsDoOperations
unfolding step_of generated_machine done word_at_pc
steps_do_operations number registers memory request inputs first five =
    let word = slice_index memory (part 0 8 (slice_index registers 0)) in
    let others : List ℕ = word ∷ num request ∷ [] in
    let i = word / 2 ^ 8 % 2 ^ 8 in
    let still : length (counted registers) ≡ 5 = length-set registers 0 _ ∙ five in
    let chosen =
    choice_done number memory inputs first [] 0 word (num request ∷ []) (counted registers) still 8 0
    ∙ ap (done number memory inputs first [] 0 word (num request ∷ []) (counted registers) still) (zero-add i) in
    ap (ended (generated_machine number))
    (ap (after_all generated_shape inputs first (choice_of number 8 0))
    (prepared registers memory inputs first (num request) five)
    ∙ chosen)
    ∙ ends number (after_operations (instruction_of number i) (counted registers)) others memory
    (still_five (instruction_of number i) (counted registers) ∙ still)
