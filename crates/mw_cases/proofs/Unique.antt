-- A job is generated of a number in one way: a microword is one by what it chooses.
use Rattle.std.proofs.Common.{◌≡◌, ℕ, zero, suc, ◌+◌, ◌*◌, ◌-◌, ◌/◌, ◌%◌, ◌^◌, ◌<◌, ◌≤◌, List, [], ◌∷◌, refl, sym, ap}
use Rattle.std.proofs.Common.{subst, ◌∙◌, inl, inr, arith}
use Rattle.std.specs.Prelude.{◌≢◌, ◌==◌, slice_index}
use Rattle.std.proofs.lemmas.Bool.{cases_lt}
use Rattle.std.proofs.lemmas.Grind.{same_number_lists}
use Rattle.mw_base.specs.Words.{num, part}
use Rattle.mw_alu.specs.declared.instruction.Destination.{Destination}
use Rattle.mw_alu.specs.declared.instruction.Destination.TheVariants as destinations
use Rattle.mw_alu.specs.declared.instruction.Function.{Function}
use Rattle.mw_alu.specs.declared.instruction.Function.TheVariants as functions
use Rattle.mw_alu.specs.declared.instruction.Source.{Source}
use Rattle.mw_alu.specs.declared.instruction.Source.TheVariants as operands
use Rattle.mw_alu.specs.Instruction.{source_of, function_of, destination_of}
use Rattle.mw_board.specs.declared.bit.Bit.{Bit}
use Rattle.mw_board.specs.declared.bit.Bit.TheVariants.{Zero, One}
use Rattle.mw_board.specs.declared.bit.DFrom.{DFrom}
use Rattle.mw_board.specs.declared.bit.DFrom.TheVariants as sources
use Rattle.mw_cycle.specs.Control.{chosen}
use Rattle.mw_cycle.specs.Microword.{points_of, no_source}
use Rattle.mw_rel.specs.Job.{job_with}
use Rattle.mw_seq.specs.declared.instruction.Instruction.{Instruction}
use Rattle.mw_seq.specs.declared.instruction.Instruction.TheVariants as instructions
use Rattle.mw_seq.specs.Instruction.{instruction_of as sequence_of}
use Rattle.mw_cases.specs.Board.{generated_fields, generated_board, first_address, unmasked}
use Rattle.mw_cases.specs.Laws.{JobsAreOne}
use Rattle.mw_cases.specs.Operations.{operation_count}
use Rattle.mw_cases.specs.Words.{Choices, choices_of, IsWordAt, IsStore}
use Rattle.mw_cases.proofs.Packed.{source_at, function_at, destination_at}

-- ---- the codes of what is chosen

-- of the Am2901's operands, its function and its destination
source_code : Source → ℕ
source_code operands.Aq = 0
source_code operands.Ab = 1
source_code operands.Zq = 2
source_code operands.Zb = 3
source_code operands.Za = 4
source_code operands.Da = 5
source_code operands.Dq = 6
source_code operands.Dz = 7

function_code : Function → ℕ
function_code functions.Add = 0
function_code functions.Subr = 1
function_code functions.Subs = 2
function_code functions.Or = 3
function_code functions.And = 4
function_code functions.Notrs = 5
function_code functions.Exor = 6
function_code functions.Exnor = 7

destination_code : Destination → ℕ
destination_code destinations.Qreg = 0
destination_code destinations.Nop = 1
destination_code destinations.Rama = 2
destination_code destinations.Ramf = 3
destination_code destinations.Ramqd = 4
destination_code destinations.Ramd = 5
destination_code destinations.Ramqu = 6
destination_code destinations.Ramu = 7

-- of the Am2910's instruction
sequence_code : Instruction → ℕ
sequence_code instructions.Jz = 0
sequence_code instructions.Cjs = 1
sequence_code instructions.Jmap = 2
sequence_code instructions.Cjp = 3
sequence_code instructions.Push = 4
sequence_code instructions.Jsrp = 5
sequence_code instructions.Cjv = 6
sequence_code instructions.Jrp = 7
sequence_code instructions.Rfct = 8
sequence_code instructions.Rpct = 9
sequence_code instructions.Crtn = 10
sequence_code instructions.Cjpp = 11
sequence_code instructions.Ldct = 12
sequence_code instructions.Loop = 13
sequence_code instructions.Cont = 14
sequence_code instructions.Twb = 15

-- of a carry in that is 0 or 1, and of D that is 0 or the memory
carry_code : Bit → ℕ
carry_code One = 1
carry_code other = 0

memory_code : DFrom → ℕ
memory_code sources.Memory = 1
memory_code other = 0

-- what is so of each number below 8 is so of one below 8
below_8 : (P : ℕ → Type 0) → P 0 → P 1 → P 2 → P 3 → P 4 → P 5 → P 6 → P 7 → (n : ℕ) → n < 8 → P n
below_8 P p0 p1 p2 p3 p4 p5 p6 p7 zero below = p0
below_8 P p0 p1 p2 p3 p4 p5 p6 p7 (suc zero) below = p1
below_8 P p0 p1 p2 p3 p4 p5 p6 p7 (suc (suc zero)) below = p2
below_8 P p0 p1 p2 p3 p4 p5 p6 p7 (suc (suc (suc zero))) below = p3
below_8 P p0 p1 p2 p3 p4 p5 p6 p7 (suc (suc (suc (suc zero)))) below = p4
below_8 P p0 p1 p2 p3 p4 p5 p6 p7 (suc (suc (suc (suc (suc zero))))) below = p5
below_8 P p0 p1 p2 p3 p4 p5 p6 p7 (suc (suc (suc (suc (suc (suc zero)))))) below = p6
below_8 P p0 p1 p2 p3 p4 p5 p6 p7 (suc (suc (suc (suc (suc (suc (suc zero))))))) below = p7
below_8 P p0 p1 p2 p3 p4 p5 p6 p7 (suc (suc (suc (suc (suc (suc (suc (suc n)))))))) below = absurd (omega arith)

-- a code chooses what has this code
source_back : (s : ℕ) → s < 8 → source_code (source_of s) ≡ s
unfolding source_of source_code
source_back = below_8 (λ s. source_code (source_of s) ≡ s) refl refl refl refl refl refl refl refl

function_back : (f : ℕ) → f < 8 → function_code (function_of (f * 8)) ≡ f
unfolding function_of function_code
function_back = below_8 (λ f. function_code (function_of (f * 8)) ≡ f) refl refl refl refl refl refl refl refl

destination_back : (d : ℕ) → d < 8 → destination_code (destination_of (d * 64)) ≡ d
unfolding destination_of destination_code
destination_back =
    below_8 (λ d. destination_code (destination_of (d * 64)) ≡ d) refl refl refl refl refl refl refl refl

sequence_back : (q : ℕ) → q < 16 → sequence_code (sequence_of q) ≡ q
unfolding sequence_of sequence_code
sequence_back q below = elim (cases_lt q 8) [
  | inl low ↦ below_8 (λ q. sequence_code (sequence_of q) ≡ q) refl refl refl refl refl refl refl refl q low
  | inr high ↦
      let is : q ≡ 8 + (q - 8) = omega arith in
      rw is (below_8 (λ q. sequence_code (sequence_of (8 + q)) ≡ 8 + q) refl refl refl refl refl refl refl refl (q - 8)
      (omega arith))
]

carry_back : (c : ℕ) → c < 2 → carry_code (chosen Zero (Zero ∷ One ∷ []) c) ≡ c
unfolding carry_code
carry_back zero below = refl
carry_back (suc zero) below = refl
carry_back (suc (suc c)) below = absurd (omega arith)

memory_back : (e : ℕ) → e < 2
    → memory_code (chosen no_source (unmasked sources.Zero ∷ unmasked sources.Memory ∷ []) e).from ≡ e
unfolding memory_code
memory_back zero below = refl
memory_back (suc zero) below = refl
memory_back (suc (suc e)) below = absurd (omega arith)

bit_back : (b : ℕ) → b < 2 → num (b == 1) ≡ b
bit_back zero below = refl
bit_back (suc zero) below = refl
bit_back (suc (suc b)) below = absurd (omega arith)

-- ---- a microword by its fields

-- the fields of a microword have the codes of what it chooses
record HasCodes (w : ℕ) (choices : Choices) : Type 0 where
  source : part 0 3 w ≡ source_code choices.source
  function : part 3 3 w ≡ function_code choices.function
  destination : part 6 3 w ≡ destination_code choices.destination
  a_address : part 9 4 w ≡ choices.a
  b_address : part 13 4 w ≡ choices.b
  carry_in : part 17 1 w ≡ carry_code choices.carry_in
  sequencer : part 18 4 w ≡ sequence_code choices.sequencer
  branch : part 22 12 w ≡ choices.branch
  test_disable : part 34 1 w ≡ num choices.test_disable
  memory : part 35 1 w ≡ memory_code choices.d
  mar_load : part 36 1 w ≡ num choices.mar_load
  ir_load : part 37 1 w ≡ num choices.ir_load

has_codes : (w : ℕ) → HasCodes w (choices_of generated_board w)
unfolding choices_of points_of generated_board generated_fields
has_codes w =
    let s : part 0 3 w < 8 = omega arith in
    let f : part 3 3 w < 8 = omega arith in
    let d : part 6 3 w < 8 = omega arith in
    record {
      source =
          sym (ap source_code (source_at (part 0 3 w) (part 3 3 w) (part 6 3 w) s f d) ∙ source_back (part 0 3 w) s);
      function =
          sym (ap function_code (function_at (part 0 3 w) (part 3 3 w) (part 6 3 w) s f d)
          ∙ function_back (part 3 3 w) f);
      destination = sym (ap destination_code (destination_at (part 0 3 w) (part 3 3 w) (part 6 3 w) s f d)
          ∙ destination_back (part 6 3 w) d);
      a_address = refl;
      b_address = refl;
      carry_in = sym (carry_back (part 17 1 w) (omega arith));
      sequencer = sym (sequence_back (part 18 4 w) (omega arith));
      branch = refl;
      test_disable = sym (bit_back (part 34 1 w) (omega arith));
      memory = sym (memory_back (part 35 1 w) (omega arith));
      mar_load = sym (bit_back (part 36 1 w) (omega arith));
      ir_load = sym (bit_back (part 37 1 w) (omega arith));
    }

-- equal fields make equal words
one_by_codes : (w v : ℕ) (choices : Choices) → w < 2 ^ 38 → v < 2 ^ 38 → HasCodes w choices → HasCodes v choices → w ≡ v
one_by_codes w v choices w_below v_below one other =
    let at_37 : w / 2 ^ 37 ≡ v / 2 ^ 37 = omega (arith, one.ir_load, other.ir_load) in
    let at_36 : w / 2 ^ 36 ≡ v / 2 ^ 36 = omega (arith, at_37, one.mar_load, other.mar_load) in
    let at_35 : w / 2 ^ 35 ≡ v / 2 ^ 35 = omega (arith, at_36, one.memory, other.memory) in
    let at_34 : w / 2 ^ 34 ≡ v / 2 ^ 34 = omega (arith, at_35, one.test_disable, other.test_disable) in
    let at_22 : w / 2 ^ 22 ≡ v / 2 ^ 22 = omega (arith, at_34, one.branch, other.branch) in
    let at_18 : w / 2 ^ 18 ≡ v / 2 ^ 18 = omega (arith, at_22, one.sequencer, other.sequencer) in
    let at_17 : w / 2 ^ 17 ≡ v / 2 ^ 17 = omega (arith, at_18, one.carry_in, other.carry_in) in
    let at_13 : w / 2 ^ 13 ≡ v / 2 ^ 13 = omega (arith, at_17, one.b_address, other.b_address) in
    let at_9 : w / 2 ^ 9 ≡ v / 2 ^ 9 = omega (arith, at_13, one.a_address, other.a_address) in
    let at_6 : w / 2 ^ 6 ≡ v / 2 ^ 6 = omega (arith, at_9, one.destination, other.destination) in
    let at_3 : w / 2 ^ 3 ≡ v / 2 ^ 3 = omega (arith, at_6, one.function, other.function) in
    omega (arith, at_3, one.source, other.source)

-- a microword is one by what it chooses
words_are_one : (w v : ℕ) → w < 2 ^ 38 → v < 2 ^ 38
    → choices_of generated_board w ≡ choices_of generated_board v → w ≡ v
words_are_one w v w_below v_below same =
    one_by_codes w v (choices_of generated_board v) w_below v_below
    (subst (HasCodes w) same (has_codes w)) (has_codes v)

-- ---- the words of a number

-- one word stands at an address
module _ (number address w v : ℕ) (one : IsWordAt number address w) (other : IsWordAt number address v) where
  by_choices : choices_of generated_board w ≡ choices_of generated_board v → w ≡ v
  by_choices same = words_are_one w v one.below other.below same

  -- behind the fetch and before the instructions
  in_front : 3 ≤ address → address < 16 → w ≡ v
  in_front from below =
      let none : (i j : ℕ) → i < 256 → j < operation_count number i → address ≢ first_address i + j =
      λ i j i_below j_below is. omega arith in
      one.unused from none ∙ sym (other.unused from none)

  -- at a place of an instruction that has an operation there, or has not
  in_instruction : (i j : ℕ) → i < 256 → j < 4 → address ≡ first_address i + j → w ≡ v
  in_instruction i j i_below j_below is = elim (cases_lt j (operation_count number i)) [
    | inl there ↦ by_choices (one.operating i j i_below there is ∙ sym (other.operating i j i_below there is))
    | inr past ↦
        let from : 3 ≤ address = omega arith in
        let none : (k l : ℕ) → k < 256 → l < operation_count number k → address ≢ first_address k + l =
        λ k l k_below l_below at.
        let few : l < 4 = omega arith in
        let same : k ≡ i = omega arith in
        let place : l ≡ j = omega arith in
        let within : j < operation_count number i = rw (← same, ← place) l_below in
        omega arith in
        one.unused from none ∙ sym (other.unused from none)
  ]

  behind : 16 ≤ address → address < 1040 → w ≡ v
  behind from below =
      in_instruction ((address - 16) / 4) ((address - 16) % 4) (omega arith) (omega arith) (omega arith)

  fetched : address < 3 → w ≡ v
  fetched below = elim (cases_lt address 1) [
    | inl first ↦
        let is : address ≡ 0 = omega arith in
        by_choices (one.addressing is ∙ sym (other.addressing is))
    | inr from ↦ elim (cases_lt address 2) [
      | inl second ↦
          let is : address ≡ 1 = omega arith in
          by_choices (one.loading is ∙ sym (other.loading is))
      | inr last ↦
          let is : address ≡ 2 = omega arith in
          by_choices (one.mapping is ∙ sym (other.mapping is))
    ]
  ]

  stands_once : address < 1040 → w ≡ v
  stands_once below = elim (cases_lt address 3) [
    | inl first ↦ fetched first
    | inr from ↦ elim (cases_lt address 16) [
      | inl front ↦ in_front from front
      | inr past ↦ behind past below
    ]
  ]

stores_are_one : (number : ℕ) (store other : List ℕ) → IsStore number store → IsStore number other → other ≡ store
stores_are_one number store other is was =
    same_number_lists other store (was.count ∙ sym is.count) (λ address within.
    let below : address < 1040 = rw was.count at within in
    stands_once number address (slice_index other address) (slice_index store address) (was.words address below)
    (is.words address below) below)

pub jobs_are_one : JobsAreOne
jobs_are_one number job other is was =
    let board : other.board ≡ job.board = was.board ∙ sym is.board in
    let store : other.store ≡ job.store = stores_are_one number job.store other.store is.store was.store in
    let machine : other.machine ≡ job.machine = was.machine ∙ sym is.machine in
    let relation : other.relation ≡ job.relation = was.relation ∙ sym is.relation in
    let whole : job_with other.board other.store other.machine other.relation
    ≡ job_with job.board job.store job.machine job.relation = rw (board, store, machine, relation) refl in
    whole
