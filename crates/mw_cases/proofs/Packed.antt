-- What a microword chooses that has each field at its place.
use Rattle.std.proofs.Common.{◌≡◌, ℕ, ◌+◌, ◌*◌, ◌/◌, ◌%◌, ◌^◌, ◌<◌, Bool, true, false, refl, [], ◌∷◌, arith}
use Rattle.std.specs.Prelude.{if◌then◌else◌, ◌==◌}
use Rattle.mw_base.specs.Words.{num, part, join}
use Rattle.mw_alu.specs.Instruction.{source_of, function_of, destination_of}
use Rattle.mw_board.specs.declared.bit.Bit.TheVariants.{Zero, One}
use Rattle.mw_board.specs.declared.bit.DFrom.TheVariants as sources
use Rattle.mw_cycle.specs.Control.{chosen}
use Rattle.mw_cycle.specs.Microword.{points_of, no_source}
use Rattle.mw_seq.specs.Instruction.{instruction_of as sequence_of}
use Rattle.mw_cases.specs.declared.word.Word.{Word}
use Rattle.mw_cases.specs.Board.{generated_fields, generated_board, unmasked}
use Rattle.mw_cases.specs.Words.{choices_of, choices_in, Chooses, IsWord}

-- the fields of a microword, with their values
record HasFields (w s f d a b c q r o e m i : ℕ) : Type 0 where
  pub source : part 0 3 w ≡ s
  pub function : part 3 3 w ≡ f
  pub destination : part 6 3 w ≡ d
  pub a_address : part 9 4 w ≡ a
  pub b_address : part 13 4 w ≡ b
  pub carry_in : part 17 1 w ≡ c
  pub sequencer : part 18 4 w ≡ q
  pub branch : part 22 12 w ≡ r
  pub test_disable : part 34 1 w ≡ o
  pub memory : part 35 1 w ≡ e
  pub mar_load : part 36 1 w ≡ m
  pub ir_load : part 37 1 w ≡ i

-- a bit is below 2
bit_below : (b : Bool) → num b < 2
bit_below true = omega arith
bit_below false = omega arith

-- each stands at its place
module _ (w s f d a b q r : ℕ) (c o e m i : Bool) (s_below : s < 8) (f_below : f < 8)
    (d_below : d < 8) (a_below : a < 16)
    (b_below : b < 16) (q_below : q < 16) (r_below : r < 4096)
    (sum : w
    ≡ s + f * 2 ^ 3 + d * 2 ^ 6 + a * 2 ^ 9 + b * 2 ^ 13 + num c * 2 ^ 17 + q * 2 ^ 18 + r * 2 ^ 22 + num o * 2 ^ 34
    + num e * 2 ^ 35 + num m * 2 ^ 36 + num i * 2 ^ 37) where
  packed_fields : HasFields w s f d a b (num c) q r (num o) (num e) (num m) (num i)
  packed_fields =
      let cb = bit_below c in
      let ob = bit_below o in
      let eb = bit_below e in
      let mb = bit_below m in
      let ib = bit_below i in
      record {
        source = omega arith;
        function = omega arith;
        destination = omega arith;
        a_address = omega arith;
        b_address = omega arith;
        carry_in = omega arith;
        sequencer = omega arith;
        branch = omega arith;
        test_disable = omega arith;
        memory = omega arith;
        mar_load = omega arith;
        ir_load = omega arith;
      }

  packed_below : w < 2 ^ 38
  packed_below = omega (arith, bit_below c, bit_below o, bit_below e, bit_below m, bit_below i)

-- ---- the Am2901's instruction

module _ (s f d : ℕ) (s_below : s < 8) (f_below : f < 8) (d_below : d < 8) where
  pub source_at : source_of (join 6 d (join 3 f s)) ≡ source_of s
  unfolding source_of
  source_at =
      let one : (d * 64 + (f * 8 + s)) % 8 ≡ s = omega arith in
      let other : s % 8 ≡ s = omega arith in
      rw (one, other) refl

  pub function_at : function_of (join 6 d (join 3 f s)) ≡ function_of (f * 8)
  unfolding function_of
  function_at =
      let one : (d * 64 + (f * 8 + s)) / 8 % 8 ≡ f = omega arith in
      let other : f * 8 / 8 % 8 ≡ f = omega arith in
      rw (one, other) refl

  pub destination_at : destination_of (join 6 d (join 3 f s)) ≡ destination_of (d * 64)
  unfolding destination_of
  destination_at =
      let one : (d * 64 + (f * 8 + s)) / 64 % 8 ≡ d = omega arith in
      let other : d * 64 / 64 % 8 ≡ d = omega arith in
      rw (one, other) refl

-- ---- lists of two

-- the carry in that a bit chooses
carry_chosen : (b : Bool) → chosen Zero (Zero ∷ One ∷ []) (num b) ≡ (if b then One else Zero)
carry_chosen true = refl
carry_chosen false = refl

-- the source of D that a bit chooses
source_chosen : (b : Bool)
    → (chosen no_source (unmasked sources.Zero ∷ unmasked sources.Memory ∷ []) (num b)).from
    ≡ (if b then sources.Memory else sources.Zero)
source_chosen true = refl
source_chosen false = refl

-- a bit is on
is_one : (b : Bool) → (num b == 1) ≡ b
is_one true = refl
is_one false = refl

-- ---- the word

-- where the fields have the codes of what a word of the code chooses, the microword chooses this
choices_are : (word : Word) (w s f d q : ℕ) → s < 8 → f < 8 → d < 8
    → HasFields w s f d word.a word.b (num word.carry_in) q word.branch (num word.test_disable) (num word.reads_memory)
    (num word.mar_load) (num word.ir_load)
    → source_of s ≡ word.source → function_of (f * 8) ≡ word.function → destination_of (d * 64) ≡ word.destination
    → sequence_of q ≡ word.sequencer
    → choices_of generated_board w ≡ choices_in word
unfolding choices_of points_of generated_board generated_fields
choices_are word w s f d q s_below f_below d_below has source function destination sequencer =
    rw (
      has.source,
      has.function,
      has.destination,
      has.a_address,
      has.b_address,
      has.carry_in,
      has.sequencer,
      has.branch,
      has.test_disable,
      has.memory,
      has.mar_load,
      has.ir_load,
      source_at s f d s_below f_below d_below,
      function_at s f d s_below f_below d_below,
      destination_at s f d s_below f_below d_below,
      source,
      function,
      destination,
      sequencer,
      carry_chosen word.carry_in,
      source_chosen word.reads_memory,
      is_one word.test_disable,
      is_one word.mar_load,
      is_one word.ir_load,
    ) refl

-- a microword with each field at its place chooses what the word of the code does
pub packed_chooses : (word : Word) → IsWord word → (w s f d q : ℕ) → s < 8 → f < 8 → d < 8 → q < 16
    → w ≡ s + f * 2 ^ 3 + d * 2 ^ 6 + word.a * 2 ^ 9 + word.b * 2 ^ 13 + num word.carry_in * 2 ^ 17 + q * 2 ^ 18
    + word.branch * 2 ^ 22 + num word.test_disable * 2 ^ 34 + num word.reads_memory * 2 ^ 35
    + num word.mar_load * 2 ^ 36
    + num word.ir_load * 2 ^ 37
    → source_of s ≡ word.source → function_of (f * 8) ≡ word.function → destination_of (d * 64) ≡ word.destination
    → sequence_of q ≡ word.sequencer
    → Chooses w (choices_in word)
packed_chooses word is w s f d q s_below f_below d_below q_below sum source function destination sequencer =
    let has =
    packed_fields w s f d word.a word.b q word.branch word.carry_in word.test_disable word.reads_memory word.mar_load
    word.ir_load s_below f_below d_below is.a is.b q_below is.branch sum in
    record {
      below = packed_below w s f d word.a word.b q word.branch word.carry_in word.test_disable
          word.reads_memory word.mar_load
          word.ir_load s_below f_below d_below is.a is.b q_below is.branch sum;
      chosen = choices_are word w s f d q s_below f_below d_below has source function destination sequencer;
    }
