-- Shifts of a board, slice by slice, are those of the whole word.
use Rattle.std.proofs.Common.{◌≡◌, ℕ, zero, suc, ◌+◌, ◌-◌, ◌*◌, ◌/◌, ◌%◌, ◌^◌, ◌<◌, ◌≤◌, arith, refl, ap, ap₂, ◌∙◌, sym}
use Rattle.std.proofs.Common.{inl, inr}
use Rattle.std.specs.Prelude.{Bool, true, false, ◌==◌, if◌then◌else◌}
use Rattle.std.proofs.lemmas.Bool.{cases_Bool, cases_eq, eq-eqb, ne_eqb}
use Rattle.std.proofs.lemmas.Nat.{pow-add, pow_pos, shr-shr, shr_below, div-mul-add, div-add-mod', mod_below}
use Rattle.mw_base.specs.Words.{num, bit_of}
use Rattle.mw_alu.specs.declared.edge.Pins.{Pins}
use Rattle.mw_alu.specs.declared.edge.ShiftOut.{ShiftOut}
use Rattle.mw_alu.specs.declared.instruction.Destination.{Destination}
use Rattle.mw_alu.specs.declared.instruction.Destination.TheVariants.{Qreg, Nop, Rama, Ramf, Ramqd, Ramd, Ramqu, Ramu}
use Rattle.mw_alu.specs.Instruction.{destination_of}
use Rattle.mw_alu.specs.WholeWord.{down, up, writes_b, b_of, writes_q, q_of, shift_of}
use Rattle.mw_alu.proofs.Shifts.{up_below}
use Rattle.mw_slice.specs.Board.{nibble, joined, high_pin, low_pin, pins_at, edges_of, sliced_shift_of}
use Rattle.mw_slice.specs.Law.{IsBoardWidth}
use Rattle.mw_base.proofs.Carries.{num_below, num_small}
use Rattle.mw_slice.proofs.Words.{joined-nibbles}
use Rattle.mw_slice.proofs.Sum.{nibble-zero}

-- a multiple of the divisor stands apart in a quotient
quotient-add : (m a b : ℕ) → 0 < m → (a + b * m) / m ≡ a / m + b
quotient-add m a b some =
    let parts = div-add-mod' a m in
    let whole : a + b * m ≡ (a / m + b) * m + a % m = omega arith in
    rw whole (div-mul-add (a / m + b) m (a % m) (mod_below a m some))

-- halves of a word's upper bits
half_above : (x k : ℕ) → x / 2 / 2 ^ k ≡ x / 2 ^ k / 2
half_above x k =
    let turned : 1 + k ≡ k + 1 = omega arith in
    shr-shr x 1 k ∙ ap (λ (n : ℕ). x / 2 ^ n) turned ∙ sym (shr-shr x k 1)

-- a bit as a number is at most 1
num_most : (b : Bool) → num b ≤ 1
num_most true = omega arith
num_most false = omega arith

-- a bit of a word as a number
bit_as_number : (x i : ℕ) → num (bit_of x i) ≡ x / 2 ^ i % 2
bit_as_number x i = num_below (x / 2 ^ i % 2) (mod_below (x / 2 ^ i) 2 (omega arith))

-- the highest slice takes the board's pin
down_top : (x k : ℕ) (high : Bool) → x < 2 ^ (4 + 4 * k) → down 4 (nibble k x) high ≡ nibble k (down (4 + 4 * k) x high)
down_top x k high word =
    let m : ℕ = 2 ^ (4 * k) in
    let place : 4 + 4 * k - 1 ≡ 3 + 4 * k = omega arith in
    let size : 2 ^ (4 + 4 * k - 1) ≡ 8 * m = ap (λ (i : ℕ). 2 ^ i) place ∙ pow-add 2 3 (4 * k) in
    let few : x / m < 16 = shr_below x 4 (4 * k) word in
    let one : num high < 2 = num_small high in
    let parts : (x / 2 + num high * 2 ^ (4 + 4 * k - 1)) / m ≡ x / m / 2 + num high * 8 =
    ap (λ (p : ℕ). (x / 2 + num high * p) / m) size
    ∙ ap (λ (p : ℕ). (x / 2 + p) / m) (omega arith)
    ∙ quotient-add m (x / 2) (num high * 8) (pow_pos (4 * k))
    ∙ ap (λ (p : ℕ). p + num high * 8) (half_above x (4 * k)) in
    sym (ap (λ (p : ℕ). p % 16) parts ∙ omega arith)

-- the others take the lowest bit of the slice above
down_below : (x k e : ℕ) (high : Bool)
    → down 4 (nibble k x) (bit_of x (4 * k + 4)) ≡ nibble k (down (e + 5 + 4 * k) x high)
down_below x k e high =
    let m : ℕ = 2 ^ (4 * k) in
    let place : e + 5 + 4 * k - 1 ≡ e + 4 + 4 * k = omega arith in
    let size : 2 ^ (e + 5 + 4 * k - 1) ≡ 2 ^ e * 16 * m =
    ap (λ (i : ℕ). 2 ^ i) place ∙ pow-add 2 (e + 4) (4 * k) ∙ ap (λ (p : ℕ). p * m) (pow-add 2 e 4) in
    let parts : (x / 2 + num high * 2 ^ (e + 5 + 4 * k - 1)) / m ≡ x / m / 2 + num high * 2 ^ e * 16 =
    ap (λ (p : ℕ). (x / 2 + num high * p) / m) size
    ∙ ap (λ (p : ℕ). (x / 2 + p) / m) (grind arith)
    ∙ quotient-add m (x / 2) (num high * 2 ^ e * 16) (pow_pos (4 * k))
    ∙ ap (λ (p : ℕ). p + num high * 2 ^ e * 16) (half_above x (4 * k)) in
    let bit : num (bit_of x (4 * k + 4)) ≡ x / m / 16 % 2 =
    bit_as_number x (4 * k + 4) ∙ sym (ap (λ (n : ℕ). n % 2) (shr-shr x (4 * k) 4)) in
    sym (ap (λ (p : ℕ). p % 16) parts ∙ omega arith)

-- a slice is shifted down as its part of the word is
pub down-nibble : (w x k n : ℕ) (high : Bool)
    → w ≡ 4 * n → x < 2 ^ w → k < n → down 4 (nibble k x) (high_pin n x high k) ≡ nibble k (down w x high)
down-nibble w x k n high whole word below = elim (cases_eq (k + 1) n) [
  | inl last ↦
      let size : w ≡ 4 + 4 * k = omega arith in
      ap (λ (t : Bool). down 4 (nibble k x) (if t then high else bit_of x (4 * k + 4))) (eq-eqb (k + 1) n last)
      ∙ down_top x k high (rw size at word) ∙ sym (ap (λ (w : ℕ). nibble k (down w x high)) size)
  | inr more ↦
      let above : k + 1 < n = omega arith in
      let size : w ≡ w - 5 - 4 * k + 5 + 4 * k = omega arith in
      ap (λ (t : Bool). down 4 (nibble k x) (if t then high else bit_of x (4 * k + 4))) (ne_eqb (k + 1) n more)
      ∙ down_below x k (w - 5 - 4 * k) high ∙ sym (ap (λ (w : ℕ). nibble k (down w x high)) size)
]

-- the low bits of what an up shift makes, with no bit lost
up_whole : (w x k : ℕ) (low : Bool) → 4 * k + 4 ≤ w → nibble k (up w x low) ≡ nibble k (2 * x + num low)
up_whole w x k low within =
    let m : ℕ = 2 ^ (4 * k) in
    let parts : w ≡ w - 4 - 4 * k + 4 + 4 * k = omega arith in
    let e : ℕ = 2 ^ (w - 4 - 4 * k) in
    let size : 2 ^ w ≡ e * 16 * m =
    ap (λ (i : ℕ). 2 ^ i) parts
    ∙ pow-add 2 (w - 4 - 4 * k + 4) (4 * k)
    ∙ ap (λ (p : ℕ). p * m) (pow-add 2 (w - 4 - 4 * k) 4) in
    let lost : ℕ = 2 * x / 2 ^ w in
    let kept : lost * 2 ^ w + 2 * x % 2 ^ w ≡ 2 * x = div-add-mod' (2 * x) (2 ^ w) in
    let split : 2 * x + num low ≡ 2 * x % 2 ^ w + num low + lost * 2 ^ w = omega arith in
    let as_blocks : lost * 2 ^ w ≡ lost * e * 16 * m = ap (λ (p : ℕ). lost * p) size ∙ grind arith in
    let whole : (2 * x + num low) / m ≡ (2 * x % 2 ^ w + num low) / m + lost * e * 16 =
    ap (λ (p : ℕ). p / m) (split ∙ ap (λ (p : ℕ). 2 * x % 2 ^ w + num low + p) as_blocks)
    ∙ quotient-add m (2 * x % 2 ^ w + num low) (lost * e * 16) (pow_pos (4 * k)) in
    sym (ap (λ (p : ℕ). p % 16) whole ∙ omega arith)

-- the lowest slice takes the board's pin, and the others the highest bit of the slice below
up_place : (x k : ℕ) (low : Bool) → up 4 (nibble k x) (low_pin x low k) ≡ nibble k (2 * x + num low)
up_place x zero low = let one : num low < 2 = num_small low in omega arith
up_place x (suc k) low =
    let m : ℕ = 2 ^ (4 * k + 3) in
    let one : num low < 2 = num_small low in
    let place : 4 * suc k ≡ 4 * k + 3 + 1 = omega arith in
    let turned : 4 * suc k ≡ 1 + (4 * k + 3) = omega arith in
    let under : 4 * suc k - 1 ≡ 4 * k + 3 = omega arith in
    let upper : x / 2 ^ (4 * suc k) ≡ x / m / 2 = ap (λ (i : ℕ). x / 2 ^ i) place ∙ sym (shr-shr x (4 * k + 3) 1) in
    let half : (2 * x + num low) / 2 ≡ x = omega arith in
    let shifted : (2 * x + num low) / 2 ^ (4 * suc k) ≡ x / m =
    ap (λ (i : ℕ). (2 * x + num low) / 2 ^ i) turned
    ∙ sym (shr-shr (2 * x + num low) 1 (4 * k + 3))
    ∙ ap (λ (n : ℕ). n / m) half in
    let other : (suc k == 0) ≡ false = ne_eqb (suc k) 0 (λ e. omega arith) in
    let bit : num (low_pin x low (suc k)) ≡ x / m % 2 =
    ap (λ (t : Bool). num (if t then low else bit_of x (4 * suc k - 1))) other
    ∙ ap (λ (i : ℕ). num (bit_of x i)) under
    ∙ bit_as_number x (4 * k + 3) in
    omega arith

-- a slice is shifted up as its part of the word is
pub up-nibble : (w x k n : ℕ) (low : Bool)
    → w ≡ 4 * n → k < n → up 4 (nibble k x) (low_pin x low k) ≡ nibble k (up w x low)
up-nibble w x k n low whole below = up_place x k low ∙ sym (up_whole w x k low (omega arith))

-- ---- what the edge writes

-- a down shift of a word is one of its width
down_width : (w x : ℕ) (high : Bool) → 1 ≤ w → x < 2 ^ w → down w x high < 2 ^ w
down_width w x high some below =
    let next : w ≡ w - 1 + 1 = omega arith in
    let size : 2 ^ w ≡ 2 ^ (w - 1) * 2 = ap (λ (i : ℕ). 2 ^ i) next ∙ pow-add 2 (w - 1) 1 in
    elim (cases_Bool high) [
      | inl set ↦ rw set (omega arith)
      | inr clear ↦ rw clear (omega arith)
    ]

-- what B takes is a word of the width
b_of_width : (destination : Destination) (w f : ℕ) (pins : Pins) → 1 ≤ w → f < 2 ^ w → b_of destination w f pins < 2 ^ w
b_of_width Qreg w f pins some below = pow_pos w
b_of_width Nop w f pins some below = pow_pos w
b_of_width Rama w f pins some below = below
b_of_width Ramf w f pins some below = below
b_of_width Ramqd w f pins some below = down_width w f pins.ram_high some below
b_of_width Ramd w f pins some below = down_width w f pins.ram_high some below
b_of_width Ramqu w f pins some below = up_below w f (num pins.ram_low) some (num_most pins.ram_low)
b_of_width Ramu w f pins some below = up_below w f (num pins.ram_low) some (num_most pins.ram_low)

-- what Q takes is a word of the width
q_of_width : (destination : Destination) (w f q : ℕ) (pins : Pins)
    → 1 ≤ w → f < 2 ^ w → q < 2 ^ w → q_of destination w f q pins < 2 ^ w
q_of_width Qreg w f q pins some f_in q_in = f_in
q_of_width Ramqd w f q pins some f_in q_in = down_width w q pins.q_high some q_in
q_of_width Ramqu w f q pins some f_in q_in = up_below w q (num pins.q_low) some (num_most pins.q_low)
q_of_width _ w f q pins some f_in q_in = pow_pos w

module _ (w f q n : ℕ) (pins : Pins) (whole : w ≡ 4 * n) (some : 1 ≤ w) (f_in : f < 2 ^ w) (q_in : q < 2 ^ w) where
  b_of-nibble : (destination : Destination) (k : ℕ)
      → k < n → b_of destination 4 (nibble k f) (pins_at n f q pins k) ≡ nibble k (b_of destination w f pins)
  b_of-nibble Qreg k below = nibble-zero k
  b_of-nibble Nop k below = nibble-zero k
  b_of-nibble Rama k below = refl
  b_of-nibble Ramf k below = refl
  b_of-nibble Ramqd k below = down-nibble w f k n pins.ram_high whole f_in below
  b_of-nibble Ramd k below = down-nibble w f k n pins.ram_high whole f_in below
  b_of-nibble Ramqu k below = up-nibble w f k n pins.ram_low whole below
  b_of-nibble Ramu k below = up-nibble w f k n pins.ram_low whole below

  q_of-nibble : (destination : Destination) (k : ℕ) → k < n
      → q_of destination 4 (nibble k f) (nibble k q) (pins_at n f q pins k) ≡ nibble k (q_of destination w f q pins)
  q_of-nibble Qreg k below = refl
  q_of-nibble Ramqd k below = down-nibble w q k n pins.q_high whole q_in below
  q_of-nibble Ramqu k below = up-nibble w q k n pins.q_low whole below
  q_of-nibble _ k below = nibble-zero k

  all_slices : 2 ^ w ≡ 2 ^ (4 * n)
  all_slices = ap (λ (k : ℕ). 2 ^ k) whole

  pub same_b : (destination : Destination)
      → joined (λ k. b_of destination 4 (nibble k f) (pins_at n f q pins k)) n ≡ b_of destination w f pins
  same_b destination =
      joined-nibbles (λ (k : ℕ). b_of destination 4 (nibble k f) (pins_at n f q pins k)) (b_of destination w f pins) n
      (rw all_slices at (b_of_width destination w f pins some f_in)) (b_of-nibble destination)

  pub same_q : (destination : Destination)
      → joined (λ k. q_of destination 4 (nibble k f) (nibble k q) (pins_at n f q pins k)) n
      ≡ q_of destination w f q pins
  same_q destination =
      joined-nibbles (λ (k : ℕ). q_of destination 4 (nibble k f) (nibble k q) (pins_at n f q pins k))
      (q_of destination w f q pins) n
      (rw all_slices at (q_of_width destination w f q pins some f_in q_in)) (q_of-nibble destination)

-- the two definitions agree
pub sliced_shift_of-shift_of : (w ins f q : ℕ) (pins : Pins)
    → IsBoardWidth w → f < 2 ^ w → q < 2 ^ w → sliced_shift_of w ins f q pins ≡ shift_of w ins f q pins
unfolding sliced_shift_of edges_of shift_of
sliced_shift_of-shift_of w ins f q pins board f_in q_in =
    let whole : w ≡ 4 * (w / 4) = omega (arith, board.whole) in
    let some : 1 ≤ w = omega (arith, board.least) in
    ap₂ (λ (b q : ℕ). let out : ShiftOut = record {
      write_b = writes_b (destination_of ins);
      b = b;
      write_q = writes_q (destination_of ins);
      q = q;
    } in
    out)
    (same_b w f q (w / 4) pins whole some f_in q_in (destination_of ins))
    (same_q w f q (w / 4) pins whole some f_in q_in (destination_of ins))
