-- Slices with lookahead answer as the whole word does.
use Rattle.std.proofs.Common.{◌≡◌, ℕ, ◌+◌, ◌-◌, ◌*◌, ◌/◌, ◌^◌, ◌<◌, ◌≤◌, arith, refl, ap, ap₂, ◌∙◌}
use Rattle.std.specs.Prelude.{Bool, true, false, ◌&&◌, ◌==◌, nat_le, if◌then◌else◌, bit_xor}
use Rattle.std.proofs.lemmas.Bool.{lt-ltb, le-ltb}
use Rattle.std.proofs.lemmas.Nat.{pow_pos, mod_below, or_lt, xor_lt, and_le_l, and_le_r}
use Rattle.std.proofs.Common.{mod-eq_of_lt}
use Rattle.mw_base.specs.Words.{bit_of, complement, differ, num}
use Rattle.mw_alu.specs.declared.answer.AluOut.{AluOut}
use Rattle.mw_alu.specs.declared.instruction.Function.{Function}
use Rattle.mw_alu.specs.declared.instruction.Function.TheVariants.{Add, Subr, Subs, Or, And, Notrs, Exor, Exnor}
use Rattle.mw_alu.specs.declared.instruction.Destination.{Destination}
use Rattle.mw_alu.specs.declared.instruction.Destination.TheVariants.{Rama}
use Rattle.mw_alu.specs.Instruction.{source_of, function_of, destination_of}
use Rattle.mw_alu.specs.WholeWord.{r_of, s_of, is_sum, addend_r, addend_s, total, carry_out, carry_into_top, f_of, y_of}
use Rattle.mw_alu.specs.WholeWord.{carry_of, overflow_of, alu_of}
use Rattle.mw_slice.specs.Lookahead.{group_generate, group_propagate, carry_out_of}
use Rattle.mw_slice.specs.Slice.{generates, propagates, over_bits, slice_generate, slice_propagate, slice_f, slice_of}
use Rattle.mw_slice.specs.Board.{nibble, joined, wired_and, carry_into_slice, slice_at, generate_at, propagate_at}
use Rattle.mw_slice.specs.Board.{answers_of, sliced_of}
use Rattle.mw_slice.specs.Law.{IsBoardWidth, HasWords}
use Rattle.mw_slice.proofs.Words.{bit_of-nibble, joined-nibbles, wired_and-zeros}
use Rattle.mw_slice.proofs.Sum.{r_of-nibble, s_of-nibble, carry, IsBoard, carry_into_slice-whole}
use Rattle.mw_slice.proofs.Answer.{r_of-below, s_of-below, carry_out-whole, carry_into_top-whole, slice_f-whole}

-- a complement is a word of the width
complement_below : (w x : ℕ) → complement w x < 2 ^ w
complement_below w x = omega (arith, pow_pos w)

-- what is added for R is a word of the width
addend_r_below : (function : Function) (w r : ℕ) → r < 2 ^ w → addend_r function w r < 2 ^ w
addend_r_below Subr w r below = complement_below w r
addend_r_below _ w r below = below

-- what is added for S is a word of the width
addend_s_below : (function : Function) (w s : ℕ) → s < 2 ^ w → addend_s function w s < 2 ^ w
addend_s_below Subs w s below = complement_below w s
addend_s_below _ w s below = below

-- F is a word of the width
f_of_below : (function : Function) (w r s : ℕ) (c : Bool) → r < 2 ^ w → s < 2 ^ w → f_of function w r s c < 2 ^ w
unfolding f_of
f_of_below Or w r s c in_r in_s = or_lt w r s in_r in_s
f_of_below And w r s c in_r in_s = omega (arith, and_le_l r s)
f_of_below Notrs w r s c in_r in_s = omega (arith, and_le_r (complement w r) s)
f_of_below Exor w r s c in_r in_s = xor_lt w r s in_r in_s
f_of_below Exnor w r s c in_r in_s = complement_below w (bit_xor r s)
f_of_below Add w r s c in_r in_s = mod_below (total Add w r s c) (2 ^ w) (pow_pos w)
f_of_below Subr w r s c in_r in_s = mod_below (total Subr w r s c) (2 ^ w) (pow_pos w)
f_of_below Subs w r s c in_r in_s = mod_below (total Subs w r s c) (2 ^ w) (pow_pos w)

-- Y is a word of the width
y_of_below : (destination : Destination) (w a f : ℕ) → a < 2 ^ w → f < 2 ^ w → y_of destination a f < 2 ^ w
y_of_below Rama w a f in_a in_f = in_a
y_of_below _ w a f in_a in_f = in_f

-- the four bits of Y that a slice has are the Y of its four bits
y_of-nibble : (destination : Destination) (k a f four : ℕ)
    → four ≡ nibble k f → y_of destination (nibble k a) four ≡ nibble k (y_of destination a f)
y_of-nibble Rama k a f four same = refl
y_of-nibble _ k a f four same = same

-- bits that agree where t is true agree under t
where_true : (t x y : Bool) → (t ≡ true → x ≡ y) → (t && x) ≡ (t && y)
where_true true x y same = same refl
where_true false x y same = refl

-- answers with the same parts are the same
same_answer : (f f' y y' : ℕ) (out out' over over' sum none none' sign sign' : Bool)
    → f ≡ f' → y ≡ y' → out ≡ out' → over ≡ over' → none ≡ none' → sign ≡ sign' → (let answer : AluOut = record {
      f = f;
      y = y;
      carry = out;
      overflow = over;
      defined = sum;
      zero = none;
      sign = sign;
    } in
    answer)
    ≡ (let answer : AluOut = record {
      f = f';
      y = y';
      carry = out';
      overflow = over';
      defined = sum;
      zero = none';
      sign = sign';
    } in
    answer)
same_answer f f' y y' out out' over over' sum none none' sign sign' e1 e2 e3 e4 e5 e6 = rw (e1, e2, e3, e4, e5, e6) refl

module _ (w ins a b q d : ℕ) (c : Bool) (board : IsBoardWidth w) (words : HasWords w a b q d) where
  abbrev n : ℕ
  n = w / 4

  abbrev function : Function
  function = function_of ins

  abbrev r : ℕ
  r = r_of (source_of ins) a d

  abbrev s : ℕ
  s = s_of (source_of ins) a b q

  in_r : r < 2 ^ w
  in_r = r_of-below (source_of ins) w a d words.a_in words.d_in

  in_s : s < 2 ^ w
  in_s = s_of-below (source_of ins) w a b q words.a_in words.b_in words.q_in

  abbrev f : ℕ
  f = f_of function w r s c

  abbrev into : ℕ → Bool
  into = carry_into_slice (generate_at n ins a b q d) (propagate_at n ins a b q d) c

  is_board : is_sum function ≡ true
      → IsBoard function w r s c in_r in_s n (generate_at n ins a b q d) (propagate_at n ins a b q d)
  unfolding slice_of
  is_board sum = record {
    whole = omega (arith, board.whole);
    generate = λ k below. ap (λ (t : Bool). if t then (slice_at ins a b q d k false).g else false) (lt-ltb k n below)
        ∙ ap₂ (λ (r s : ℕ). slice_generate function r s) (r_of-nibble (source_of ins) k a d)
        (s_of-nibble (source_of ins) k a b q)
        ∙ ap (λ (t : Bool). t && group_generate (generates function (nibble k r) (nibble k s))
        (propagates function (nibble k r) (nibble k s)))
        sum;
    propagate = λ k below. ap (λ (t : Bool). if t then (slice_at ins a b q d k false).p else true) (lt-ltb k n below)
        ∙ ap₂ (λ (r s : ℕ). slice_propagate function r s) (r_of-nibble (source_of ins) k a d)
        (s_of-nibble (source_of ins) k a b q)
        ∙ ap (λ (t : Bool). t && group_propagate (propagates function (nibble k r) (nibble k s))) sum;
    no_generate = λ k past. ap (λ (t : Bool). if t then (slice_at ins a b q d k false).g else false) (le-ltb k n past);
    all_propagate = λ k past. ap (λ (t : Bool). if t then (slice_at ins a b q d k false).p else true) (le-ltb k n past);
  }

  -- each carry of the lookahead is the whole sum's at that bit
  pub into-whole : (k : ℕ) → k < n → is_sum function ≡ true → into k ≡ carry function w r s c (4 * k)
  into-whole k below sum =
      carry_into_slice-whole function w r s c in_r in_s n (generate_at n ins a b q d) (propagate_at n ins a b q d)
      (is_board sum) k below (omega (arith, board.most))

  reach : (k : ℕ) → k < n → 4 * k + 4 ≤ w
  reach k below = omega arith

  slice_f-same : (k : ℕ) → k < n → (slice_at ins a b q d k (into k)).f ≡ nibble k f
  unfolding slice_of
  slice_f-same k below =
      ap₂ (λ (r s : ℕ). slice_f function r s (into k)) (r_of-nibble (source_of ins) k a d)
      (s_of-nibble (source_of ins) k a b q)
      ∙ slice_f-whole function w r s c in_r in_s k (reach k below) (into k) (into-whole k below)

  slice_y-same : (k : ℕ) → k < n → (slice_at ins a b q d k (into k)).y ≡ nibble k (y_of (destination_of ins) a f)
  unfolding slice_of
  slice_y-same k below =
      y_of-nibble (destination_of ins) k a f (slice_at ins a b q d k (into k)).f (slice_f-same k below)

  all_slices : 2 ^ w ≡ 2 ^ (4 * n)
  all_slices = let whole : w ≡ 4 * n = omega (arith, board.whole) in ap (λ (k : ℕ). 2 ^ k) whole

  same_f : joined (λ k. (slice_at ins a b q d k (into k)).f) n ≡ f
  same_f = joined-nibbles (λ (k : ℕ). (slice_at ins a b q d k (into k)).f) f n
      (rw all_slices at (f_of_below function w r s c in_r in_s)) slice_f-same

  same_y : joined (λ k. (slice_at ins a b q d k (into k)).y) n ≡ y_of (destination_of ins) a f
  same_y = joined-nibbles (λ (k : ℕ). (slice_at ins a b q d k (into k)).y) (y_of (destination_of ins) a f) n
      (rw all_slices at (y_of_below (destination_of ins) w a f words.a_in (f_of_below function w r s c in_r in_s)))
      slice_y-same

  abbrev top : ℕ
  top = n - 1

  is_top : top < n
  is_top = omega (arith, board.whole, board.least)

  -- the carry out of the top slice is the whole sum's
  out : is_sum function ≡ true → carry_out_of (over_bits function (nibble top r) (nibble top s) (into top)) (into top)
      ≡ carry_out function w r s c
  out sum =
      let last : 4 * top + 4 ≡ w = omega (arith, board.whole, board.least) in
      carry_out-whole function w r s c in_r in_s top (reach top is_top) (into top) (into-whole top is_top) sum
      ∙ ap (carry function w r s c) last
      ∙ ap₂ (λ (r s : ℕ). nat_le (2 ^ w) (r + s + num c)) (mod-eq_of_lt (addend_r_below function w r in_r))
      (mod-eq_of_lt (addend_s_below function w s in_s))

  over : is_sum function ≡ true
      → (over_bits function (nibble top r) (nibble top s) (into top)).z ≡ carry_into_top function w r s c
  over sum =
      let last : 4 * top + 3 ≡ w - 1 = omega (arith, board.whole, board.least) in
      carry_into_top-whole function w r s c in_r in_s top (reach top is_top) (into top) (into-whole top is_top) sum
      ∙ ap (carry function w r s c) last

  same_carry : (slice_at ins a b q d top (into top)).carry ≡ carry_of function w r s c
  unfolding slice_of carry_of
  same_carry =
      ap₂ (λ (r s : ℕ). is_sum function && carry_out_of (over_bits function r s (into top)) (into top))
      (r_of-nibble (source_of ins) top a d) (s_of-nibble (source_of ins) top a b q)
      ∙ where_true (is_sum function)
      (carry_out_of (over_bits function (nibble top r) (nibble top s) (into top)) (into top))
      (carry_out function w r s c) out

  same_overflow : (slice_at ins a b q d top (into top)).overflow ≡ overflow_of function w r s c
  unfolding slice_of overflow_of
  same_overflow =
      ap₂ (λ (r s : ℕ). is_sum function
      && differ (over_bits function r s (into top)).z (carry_out_of (over_bits function r s (into top)) (into top)))
      (r_of-nibble (source_of ins) top a d) (s_of-nibble (source_of ins) top a b q)
      ∙ where_true (is_sum function) (differ (over_bits function (nibble top r) (nibble top s) (into top)).z
      (carry_out_of (over_bits function (nibble top r) (nibble top s) (into top)) (into top)))
      (differ (carry_into_top function w r s c) (carry_out function w r s c)) (λ sum. ap₂ differ (over sum) (out sum))

  same_zero : wired_and (λ k. (slice_at ins a b q d k (into k)).zero) n ≡ (f == 0)
  unfolding slice_of
  same_zero = wired_and-zeros (λ (k : ℕ). (slice_at ins a b q d k (into k)).f) n ∙ ap (λ (f : ℕ). f == 0) same_f

  same_sign : (slice_at ins a b q d top (into top)).sign ≡ bit_of f (w - 1)
  unfolding slice_of
  same_sign =
      let last : 4 * top + 3 ≡ w - 1 = omega (arith, board.whole, board.least) in
      ap (λ (f : ℕ). bit_of f 3) (slice_f-same top is_top)
      ∙ bit_of-nibble top f 3 (omega arith)
      ∙ ap (λ (i : ℕ). bit_of f i) last

  -- the two definitions agree
  pub sliced_of-alu_of : sliced_of w ins a b q d c ≡ alu_of w ins a b q d c
  unfolding sliced_of answers_of alu_of
  sliced_of-alu_of = same_answer _ _ _ _ _ _ _ _ _ _ _ _ _ same_f same_y same_carry same_overflow same_zero same_sign
