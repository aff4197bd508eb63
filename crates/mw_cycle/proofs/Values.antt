-- The elements of a board's state: what has a number, and what stays when one of them takes a value.
use Rattle.std.proofs.Common.{◌≡◌, ◌≢◌, ℕ, zero, suc, ◌+◌, ◌-◌, ◌^◌, ◌<◌, ◌≤◌, length}
use Rattle.std.proofs.Common.{Bool, true, false, cond, ◌==◌, nat_lt, bit_and, bit_or, Some, refl}
use Rattle.std.proofs.Common.{sym, ap, ◌∙◌, arith, get_or-set_same, get_or-set_other}
use Rattle.std.specs.Int.{bit_at, w16}
use Rattle.std.proofs.lemmas.Bool.Decides.{nat_tests}
use Rattle.std.proofs.lemmas.Nat.{one_shl, or_lt, and_le_l, pow_below}
use Rattle.std.proofs.lemmas.Nat.Bits.{bit_at-lt, bit_at_set_same, bit_at_set_other, bit_at_clear_same}
use Rattle.std.proofs.lemmas.Nat.Bits.{bit_at_clear_other}
use Rattle.mw_base.specs.Words.{bit_of, num, complement}
use Rattle.mw_board.specs.declared.parts.BoardParts.{BoardParts}
use Rattle.mw_board.specs.Depth.{depth_of}
use Rattle.mw_board.specs.Elements.{element_count, element_width}
use Rattle.mw_board.proofs.Elements.{count_of, width_of_address, width_before, width_of_flipflop, width_behind}
use Rattle.mw_cycle.specs.declared.elements.Element.{Element}
use Rattle.mw_cycle.specs.declared.elements.Element.TheVariants.{Register, Q, Mar, Ir, FlipFlop, Pc, R, StackWord}
use Rattle.mw_cycle.proofs.Edge.{chosen_below, words_below, same_length}
use Rattle.mw_cycle.specs.Elements.{pc_number, element_of, IsElement, bits_of, value_of, with_flip, with_value}
use Rattle.mw_cycle.specs.State.{BoardState, Fits}

-- ---- what has a number

-- what is so of both answers of a test is so of the one that it chooses
either : (P : Element → Type 0) (b : Bool) (x y : Element) → (b ≡ true → P x) → (b ≡ false → P y) → P (cond b x y)
either P true x y on off = on refl
either P false x y on off = off refl

-- what is so of each element where it has its number is so of the element with a number
pub by_number : (board : BoardParts) (n : ℕ) (P : Element → Type 0)
    → (n < 16 → P (Register n)) → (n ≡ 16 → P Q) → (n ≡ 17 → P Mar) → (n ≡ 18 → P Ir)
    → (19 ≤ n → n < pc_number board → P (FlipFlop (n - 19)))
    → (n ≡ pc_number board → P Pc) → (n ≡ pc_number board + 1 → P R)
    → (pc_number board + 2 ≤ n → P (StackWord (n - (pc_number board + 2))))
    → P (element_of board n)
unfolding element_of
by_number board n P register q mar ir flip pc r word =
    either P (nat_lt n 16) _ _ (λ t. register (grind (arith, nat_tests))) (λ f.
    either P (n == 16) _ _ (λ t. q (grind (arith, nat_tests))) (λ f1.
    either P (n == 17) _ _ (λ t. mar (grind (arith, nat_tests))) (λ f2.
    either P (n == 18) _ _ (λ t. ir (grind (arith, nat_tests))) (λ f3.
    either P (nat_lt n (pc_number board)) _ _ (λ t. flip (grind (arith, nat_tests)) (grind (arith, nat_tests))) (λ f4.
    either P (n == pc_number board) _ _ (λ t. pc (grind (arith, nat_tests))) (λ f5.
    either P (n == pc_number board + 1) _ _ (λ t. r (grind (arith, nat_tests))) (λ f6.
    word (grind (arith, nat_tests)))))))))

-- the number of an element
number_of_element : BoardParts → Element → ℕ
number_of_element board (Register n) = n
number_of_element board Q = 16
number_of_element board Mar = 17
number_of_element board Ir = 18
number_of_element board (FlipFlop n) = 19 + n
number_of_element board Pc = pc_number board
number_of_element board R = pc_number board + 1
number_of_element board (StackWord n) = pc_number board + 2 + n

number_is : (board : BoardParts) (n : ℕ) → number_of_element board (element_of board n) ≡ n
unfolding number_of_element
number_is board n =
    by_number board n (λ e. number_of_element board e ≡ n) (λ h. refl) (λ h. omega arith) (λ h. omega arith)
    (λ h. omega arith) (λ h k. omega arith) (λ h. sym h) (λ h. sym h) (λ h. omega arith)

-- two numbers that differ are those of two elements
pub apart : (board : BoardParts) (m n : ℕ) → m ≢ n → element_of board m ≢ element_of board n
apart board m n other = λ same. other (sym (number_is board m) ∙ ap (number_of_element board) same ∙ number_is board n)

-- the element with a number of the board is one of it
pub is_element : (board : BoardParts) (n : ℕ) → n < element_count board → IsElement board (element_of board n)
is_element board n there =
    let count = count_of board in
    by_number board n (IsElement board) (λ h. h) (λ h. tt) (λ h. tt) (λ h. tt)
    (λ h k. omega arith) (λ h. tt) (λ h. tt) (λ h. omega arith)

-- and has as many bits as the table says
pub width_is : (board : BoardParts) (n : ℕ)
    → n < element_count board → element_width board n ≡ Some (bits_of board (element_of board n))
width_is board n there =
    by_number board n (λ e. element_width board n ≡ Some (bits_of board e))
    (λ h. sym (width_before board n (omega arith) (λ e. absurd (omega arith))))
    (λ h. sym (width_before board n (omega arith) (λ e. absurd (omega arith))))
    (λ h. rw h (sym (width_of_address board)))
    (λ h. sym (width_before board n (omega arith) (λ e. absurd (omega arith))))
    (λ h k. sym (width_of_flipflop board n h k))
    (λ h. sym (width_behind board n (omega arith) there))
    (λ h. sym (width_behind board n (omega arith) there))
    (λ h. sym (width_behind board n (omega arith) there))

-- ---- flip-flops

-- a bit as a number
small : (b : ℕ) → b < 2 → num (b == 1) ≡ b
small b h = grind (arith, nat_tests)

num_is : (x j : ℕ) → num (bit_of x j) ≡ bit_at x j
num_is x j = small (bit_at x j) (bit_at-lt x j)

-- a flip-flop that takes a bit has it
flip_same : (flips n v : ℕ) → n < 16 → v < 2 → bit_at (with_flip flips n v) n ≡ v
flip_same flips n zero h k =
    ap (λ m. bit_at (bit_and flips (complement 16 m)) n) (sym (one_shl n 16 h)) ∙ bit_at_clear_same w16 flips n h
flip_same flips n (suc zero) h k =
    ap (λ m. bit_at (bit_or flips m) n) (sym (one_shl n 16 h)) ∙ bit_at_set_same w16 flips n h
flip_same flips n (suc (suc v)) h k = absurd (omega arith)

-- and another is as it was
flip_other : (flips n m v : ℕ) → n < 16 → m < 16 → m ≢ n → v < 2 → bit_at (with_flip flips n v) m ≡ bit_at flips m
flip_other flips n m zero h g other k =
    ap (λ x. bit_at (bit_and flips (complement 16 x)) m) (sym (one_shl n 16 h))
    ∙ bit_at_clear_other w16 flips n h m g other
flip_other flips n m (suc zero) h g other k =
    ap (λ x. bit_at (bit_or flips x) m) (sym (one_shl n 16 h)) ∙ bit_at_set_other w16 flips n h m other
flip_other flips n m (suc (suc v)) h g other k = absurd (omega arith)

-- none is there that wasn't
flips_below : (flips n v k : ℕ) → n < k → flips < 2 ^ k → with_flip flips n v < 2 ^ k
flips_below flips n v k h below =
    let less = and_le_l flips (complement 16 (2 ^ n)) in
    chosen_below (v == 0) (bit_and flips (complement 16 (2 ^ n))) (bit_or flips (2 ^ n)) (2 ^ k) (omega arith)
    (or_lt k flips (2 ^ n) below (pow_below n k h))

-- ---- an element that takes a value

-- it has the value
pub takes : (board : BoardParts) (s : BoardState) (e : Element) (v : ℕ) → Fits board s → length board.flipflop ≤ 16
    → IsElement board e → v < 2 ^ bits_of board e → value_of (with_value s e v) e ≡ v
takes board s (Register n) v fits few is h = get_or-set_same s.regs n v 0 (omega (arith, fits.sixteen))
takes board s Q v fits few is h = refl
takes board s Mar v fits few is h = refl
takes board s Ir v fits few is h = refl
takes board s (FlipFlop n) v fits few is h = num_is (with_flip s.flips n v) n ∙ flip_same s.flips n v (omega arith) h
takes board s Pc v fits few is h = refl
takes board s R v fits few is h = refl
takes board s (StackWord n) v fits few is h = get_or-set_same s.seq.stack n v 0 (omega (arith, fits.seq.size))

-- and the others are as they were
pub leaves : (board : BoardParts) (s : BoardState) (e other : Element) (v : ℕ)
    → length board.flipflop ≤ 16 → IsElement board e → IsElement board other
    → v < 2 ^ bits_of board e → other ≢ e → value_of (with_value s e v) other ≡ value_of s other
leaves board s (Register n) (Register m) v few is also h apart =
    get_or-set_other s.regs n m v 0 (λ same. apart (ap Register same))
leaves board s (FlipFlop n) (FlipFlop m) v few is also h apart =
    num_is (with_flip s.flips n v) m
    ∙ flip_other s.flips n m v (omega arith) (omega arith) (λ same. apart (ap FlipFlop same)) h
    ∙ sym (num_is s.flips m)
leaves board s (StackWord n) (StackWord m) v few is also h apart =
    get_or-set_other s.seq.stack n m v 0 (λ same. apart (ap StackWord same))
leaves board s Q Q v few is also h apart = absurd (apart refl)
leaves board s Mar Mar v few is also h apart = absurd (apart refl)
leaves board s Ir Ir v few is also h apart = absurd (apart refl)
leaves board s Pc Pc v few is also h apart = absurd (apart refl)
leaves board s R R v few is also h apart = absurd (apart refl)
leaves board s e other v few is also h apart = refl

-- and the state fits as it did
pub still_fits : (board : BoardParts) (s : BoardState) (e : Element) (v : ℕ)
    → Fits board s → IsElement board e → v < 2 ^ bits_of board e → Fits board (with_value s e v)
still_fits board s (Register n) v fits is h =
    record {
      at = fits.at;
      sixteen = same_length true s.regs n v 16 fits.sixteen;
      regs = words_below true s.regs n v (2 ^ board.width) fits.regs h;
      q = fits.q;
      mar = fits.mar;
      ir = fits.ir;
      flips = fits.flips;
      seq = fits.seq;
      size = fits.size;
      memory = fits.memory;
    }
still_fits board s Q v fits is h =
    record {
      at = fits.at;
      sixteen = fits.sixteen;
      regs = fits.regs;
      q = h;
      mar = fits.mar;
      ir = fits.ir;
      flips = fits.flips;
      seq = fits.seq;
      size = fits.size;
      memory = fits.memory;
    }
still_fits board s Mar v fits is h =
    record {
      at = fits.at;
      sixteen = fits.sixteen;
      regs = fits.regs;
      q = fits.q;
      mar = h;
      ir = fits.ir;
      flips = fits.flips;
      seq = fits.seq;
      size = fits.size;
      memory = fits.memory;
    }
still_fits board s Ir v fits is h =
    record {
      at = fits.at;
      sixteen = fits.sixteen;
      regs = fits.regs;
      q = fits.q;
      mar = fits.mar;
      ir = h;
      flips = fits.flips;
      seq = fits.seq;
      size = fits.size;
      memory = fits.memory;
    }
still_fits board s (FlipFlop n) v fits is h =
    record {
      at = fits.at;
      sixteen = fits.sixteen;
      regs = fits.regs;
      q = fits.q;
      mar = fits.mar;
      ir = fits.ir;
      flips = flips_below s.flips n v (length board.flipflop) is fits.flips;
      seq = fits.seq;
      size = fits.size;
      memory = fits.memory;
    }
still_fits board s Pc v fits is h =
    record {
      at = fits.at;
      sixteen = fits.sixteen;
      regs = fits.regs;
      q = fits.q;
      mar = fits.mar;
      ir = fits.ir;
      flips = fits.flips;
      seq = record { pc = h; r = fits.seq.r; words = fits.seq.words; size = fits.seq.size; sp = fits.seq.sp };
      size = fits.size;
      memory = fits.memory;
    }
still_fits board s R v fits is h =
    record {
      at = fits.at;
      sixteen = fits.sixteen;
      regs = fits.regs;
      q = fits.q;
      mar = fits.mar;
      ir = fits.ir;
      flips = fits.flips;
      seq = record { pc = fits.seq.pc; r = h; words = fits.seq.words; size = fits.seq.size; sp = fits.seq.sp };
      size = fits.size;
      memory = fits.memory;
    }
still_fits board s (StackWord n) v fits is h =
    record {
      at = fits.at;
      sixteen = fits.sixteen;
      regs = fits.regs;
      q = fits.q;
      mar = fits.mar;
      ir = fits.ir;
      flips = fits.flips;
      seq = record {
        pc = fits.seq.pc;
        r = fits.seq.r;
        words = words_below true s.seq.stack n v (2 ^ 12) fits.seq.words h;
        size = same_length true s.seq.stack n v (depth_of board) fits.seq.size;
        sp = fits.seq.sp;
      };
      size = fits.size;
      memory = fits.memory;
    }
