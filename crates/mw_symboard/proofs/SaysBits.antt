-- What the terms of bits say of a cycle's nets.
use Rattle.std.proofs.Common.{◌≡◌, ℕ, ◌+◌, ◌-◌, ◌^◌, ◌<◌, List, length, slice_index, refl, ap, ap₂, sym, ◌∙◌}
use Rattle.std.specs.Prelude.{Bool, true, false, not, ◌==◌, nat_le, bit_xor, if◌then◌else◌, ◌&&◌}
use Rattle.mw_base.specs.Carries.{carry_at}
use Rattle.mw_base.specs.Words.{bit_of, complement, differ, num}
use Rattle.mw_alu.specs.declared.instruction.Function.{Function}
use Rattle.mw_alu.specs.Instruction.{function_of}
use Rattle.mw_alu.specs.WholeWord.{addend_r, addend_s, alu_of, carry_of, carry_out, is_sum, overflow_of}
use Rattle.mw_board.specs.declared.bit.Bit.{Bit}
use Rattle.mw_board.specs.declared.bit.Bit.TheVariants as bits
use Rattle.mw_board.specs.declared.bit.Load.{Load}
use Rattle.mw_board.specs.declared.bit.Load.TheVariants as loads
use Rattle.mw_board.specs.declared.parts.BoardParts.{BoardParts}
use Rattle.mw_board.specs.Depth.{depth_of}
use Rattle.mw_board.specs.Valid as valid
use Rattle.mw_cycle.specs.declared.elements.Element.TheVariants.{Q, Ir, FlipFlop}
use Rattle.mw_cycle.specs.Cycle.{answer_of, bit_value, carry_net, early_bit, loaded, operands_of, overflow_net}
use Rattle.mw_term.specs.declared.op.Op.TheVariants.{Con, Not, Xor, Cout, Ovf, Eq, Part}
use Rattle.mw_term.specs.Table.{Table, IsTable}
use Rattle.mw_term.specs.declared.word.Word.{Word}
use Rattle.mw_symmem.specs.Memory.{Memory}
use Rattle.mw_symboard.specs.declared.bits.Sources.{Sources}
use Rattle.mw_symboard.specs.Made.{Is, IsBitTerm, IsEarlyBit, IsLoaded, sources_of}
use Rattle.mw_cycle.specs.ReadingWords.{carry_op, overflow_op}
use Rattle.mw_symboard.specs.Parts.{AreParts}
use Rattle.mw_symboard.specs.Seen.{Progress, Says, Scene, answer_net, bit_net, early_net, microword_of}
use Rattle.mw_symboard.proofs.Meaning.{low_bits, says_element}
use Rattle.mw_symboard.specs.Nets.{carry_in_net, first_net, r_net, s_net, second_net, SaySources}
use Rattle.mw_symboard.proofs.Saying.{says_as, says_below, says_bit, says_con, says_cout, says_eq, says_not, says_ovf}
use Rattle.mw_symboard.proofs.Saying.{says_same, says_xor}

-- ---- of plain bits

-- a bit turned over, as a word of one bit
complement_bit : (b : Bool) → complement 1 (num b) ≡ num (not b)
complement_bit true = refl
complement_bit false = refl

-- the exclusive or of two bits
xor_bits : (a b : Bool) → bit_xor (num a) (num b) ≡ num (differ a b)
xor_bits true true = refl
xor_bits true false = refl
xor_bits false true = refl
xor_bits false false = refl

-- the carry out of two words is that of their sum
carry_whole : (w x y : ℕ) (c : Bool) → x < 2 ^ w → y < 2 ^ w → carry_at x y c w ≡ nat_le (2 ^ w) (x + y + num c)
carry_whole w x y c first second =
    ap₂ (λ (n o : ℕ). nat_le (2 ^ w) (n + o + num c)) (low_bits x w first) (low_bits y w second)

-- the carry of a sum, and of another function a bit of the noise
carry_value : (function : Function) (w r s : ℕ) (c noise sum : Bool)
    → is_sum function ≡ sum → addend_r function w r < 2 ^ w → addend_s function w s < 2 ^ w
    → (if sum then carry_at (addend_r function w r) (addend_s function w s) c w else noise)
    ≡ (if is_sum function then carry_of function w r s c else noise)
unfolding carry_of
carry_value function w r s c noise true is first second =
    carry_whole w (addend_r function w r) (addend_s function w s) c first second
    ∙ ap (λ (b : Bool). if b then b && carry_out function w r s c else noise) (sym is)
carry_value function w r s c noise false is first second =
    ap (λ (b : Bool). if b then b && carry_out function w r s c else noise) (sym is)

-- the overflow of a sum, and of another function a bit of the noise
overflow_value : (function : Function) (w r s : ℕ) (c noise sum : Bool) → is_sum function ≡ sum
    → addend_r function w r < 2 ^ w → addend_s function w s < 2 ^ w
    → (if sum then differ (carry_at (addend_r function w r) (addend_s function w s) c (w - 1))
    (carry_at (addend_r function w r) (addend_s function w s) c w) else noise)
    ≡ (if is_sum function then overflow_of function w r s c else noise)
unfolding overflow_of
overflow_value function w r s c noise true is first second =
    let into : Bool = carry_at (addend_r function w r) (addend_s function w s) c (w - 1) in
    ap (differ into) (carry_whole w (addend_r function w r) (addend_s function w s) c first second)
    ∙ ap (λ (b : Bool). if b then b && differ into (carry_out function w r s c) else noise) (sym is)
overflow_value function w r s c noise false is first second =
    let into : Bool = carry_at (addend_r function w r) (addend_s function w s) c (w - 1) in
    ap (λ (b : Bool). if b then b && differ into (carry_out function w r s c) else noise) (sym is)

-- ---- of a cycle

module _ {board : BoardParts} {store : List ℕ} {t : Table} {words : List Word} {m : Memory} {p : Progress} where
  -- a bit that stands before F is made
  pub says_early : (line : ℕ) (bit : Bit) (term : ℕ) → IsTable t → AreParts board t p.parts
      → valid.IsBit board.width (length board.flipflop) bit
      → Says board store t words m p 1 line (λ x. num x.outside.line)
      → IsEarlyBit board t p.parts p.sp line bit term → Says board store t words m p 1 term (early_net board bit)
  unfolding early_bit
  says_early line bits.One term table parts named says is = says_con 1 1 term table is
  says_early line bits.QLow term table parts named says is =
      says_bit board.width p.parts.q 0 term (λ x. x.state.q) table is (says_element Q parts tt)
  says_early line bits.QHigh term table parts named says is =
      says_bit board.width p.parts.q (board.width - 1) term (λ x. x.state.q) table is (says_element Q parts tt)
  says_early line bits.Line term table parts named says is =
      says_same 1 line term (λ x. num x.outside.line) is says
  says_early line bits.Full term table parts named says is =
      says_as 1 term (λ x. num (p.sp == depth_of board)) (early_net board bits.Full)
      (says_con (num (p.sp == depth_of board)) 1 term table is)
      (λ given x seen. ap (λ (n : ℕ). num (n == depth_of board)) (sym seen.state.sp))
  says_early line (bits.Ir n) term table parts named says is =
      says_bit board.width p.parts.ir n term (λ x. x.state.ir) table is (says_element Ir parts tt)
  says_early line (bits.Flip n) term table parts named says is =
      says_same 1 (slice_index p.parts.flips n) term (λ x. num (bit_of x.state.flips n)) is
      (says_element (FlipFlop n) parts named)
  says_early line bit term table parts named says is = says_con 0 1 term table is

  -- the carry, by whether the function is a sum
  says_carry_by : (sum : Bool) (n : Sources) (term : ℕ) → IsTable t → SaySources board store t words m p n
      → is_sum n.function ≡ sum → Is t (if sum then Cout n.first n.second n.carry else Part n.noise 12 1) term
      → Says board store t words m p 1 term
      (λ x. num (if sum
      then carry_at (first_net board store p x) (second_net board store p x) (carry_in_net board store p x) board.width
      else bit_of x.outside.noise 12))
  says_carry_by true n term table says sum is =
      says_cout board.width n.first n.second n.carry term (first_net board store p) (second_net board store p)
      (carry_in_net board store p) table is says.first says.second says.carry
  says_carry_by false n term table says sum is = says_bit 14 n.noise 12 term (λ x. x.outside.noise) table is says.noise

  -- the carry, or a bit of the noise
  pub says_carry : (n : Sources) (term : ℕ)
      → IsTable t → SaySources board store t words m p n → Is t (carry_op (sources_of n)) term
      → Says board store t words m p 1 term (λ x. num (carry_net (answer_net board store p x) x.outside))
  unfolding answer_of operands_of alu_of
  says_carry n term table says is =
      let function = function_of (microword_of board store p).instruction in
      says_as 1 term
      (λ x. num (if is_sum n.function then carry_at (first_net board store p x) (second_net board store p x)
      (carry_in_net board store p x) board.width else bit_of x.outside.noise 12))
      (λ x. num (carry_net (answer_net board store p x) x.outside))
      (says_carry_by (is_sum n.function) n term table says refl is)
      (λ given x seen. ap num (carry_value function board.width (r_net board store p x) (s_net board store p x)
      (carry_in_net board store p x) (bit_of x.outside.noise 12) (is_sum n.function) (ap is_sum (sym says.function))
      (says_below board.width n.first (first_net board store p) table says.first given x seen)
      (says_below board.width n.second (second_net board store p) table says.second given x seen)))

  -- the overflow, by whether the function is a sum
  says_overflow_by : (sum : Bool) (n : Sources) (term : ℕ) → IsTable t → SaySources board store t words m p n
      → is_sum n.function ≡ sum → Is t (if sum then Ovf n.first n.second n.carry else Part n.noise 13 1) term
      → Says board store t words m p 1 term
      (λ x. num (if sum then differ
      (carry_at (first_net board store p x) (second_net board store p x) (carry_in_net board store p x)
      (board.width - 1))
      (carry_at (first_net board store p x) (second_net board store p x) (carry_in_net board store p x) board.width)
      else bit_of x.outside.noise 13))
  says_overflow_by true n term table says sum is =
      says_ovf board.width n.first n.second n.carry term (first_net board store p) (second_net board store p)
      (carry_in_net board store p) table is says.first says.second says.carry
  says_overflow_by false n term table says sum is =
      says_bit 14 n.noise 13 term (λ x. x.outside.noise) table is says.noise

  -- the overflow, or a bit of the noise
  pub says_overflow : (n : Sources) (term : ℕ) → IsTable t → SaySources board store t words m p n
      → Is t (overflow_op (sources_of n)) term
      → Says board store t words m p 1 term (λ x. num (overflow_net (answer_net board store p x) x.outside))
  unfolding answer_of operands_of alu_of
  says_overflow n term table says is =
      let function = function_of (microword_of board store p).instruction in
      says_as 1 term
      (λ x. num (if is_sum n.function then differ
      (carry_at (first_net board store p x) (second_net board store p x) (carry_in_net board store p x)
      (board.width - 1))
      (carry_at (first_net board store p x) (second_net board store p x) (carry_in_net board store p x) board.width)
      else bit_of x.outside.noise 13))
      (λ x. num (overflow_net (answer_net board store p x) x.outside))
      (says_overflow_by (is_sum n.function) n term table says refl is)
      (λ given x seen. ap num (overflow_value function board.width (r_net board store p x) (s_net board store p x)
      (carry_in_net board store p x) (bit_of x.outside.noise 13) (is_sum n.function) (ap is_sum (sym says.function))
      (says_below board.width n.first (first_net board store p) table says.first given x seen)
      (says_below board.width n.second (second_net board store p) table says.second given x seen)))

  -- whether F is 0
  says_zero : (n : Sources) (zero term : ℕ)
      → IsTable t → SaySources board store t words m p n → Is t (Con 0 board.width) zero → Is t (Eq n.f zero) term
      → Says board store t words m p 1 term (λ x. num (answer_net board store p x).zero)
  unfolding answer_of operands_of alu_of
  says_zero n nothing term table says none is =
      says_eq board.width n.f nothing term (λ x. (answer_net board store p x).f) (λ x. 0) table is says.f
      (says_con 0 board.width nothing table none)

  -- the top bit of F
  says_sign : (n : Sources) (term : ℕ) → IsTable t → SaySources board store t words m p n
      → Is t (Part n.f (board.width - 1) 1) term
      → Says board store t words m p 1 term (λ x. num (answer_net board store p x).sign)
  unfolding answer_of operands_of alu_of
  says_sign n term table says is =
      says_bit board.width n.f (board.width - 1) term (λ x. (answer_net board store p x).f) table is says.f

  -- a bit, once F is made
  pub says_bit_term : (n : Sources) (bit : Bit) (term : ℕ) → IsTable t → AreParts board t p.parts
      → valid.IsBit board.width (length board.flipflop) bit → SaySources board store t words m p n
      → IsBitTerm board t p.parts p.sp n bit term → Says board store t words m p 1 term (bit_net board store p bit)
  unfolding bit_value
  says_bit_term n bits.Carry term table parts named says is = says_carry n term table says is
  says_bit_term n bits.Overflow term table parts named says is = says_overflow n term table says is
  says_bit_term n bits.FZero term table parts named says is = says_zero n is.0 term table says is.1 is.2
  says_bit_term n bits.Sign term table parts named says is = says_sign n term table says is
  says_bit_term n bits.FLow term table parts named says is =
      says_bit board.width n.f 0 term (λ x. (answer_net board store p x).f) table is says.f
  says_bit_term n bits.FHigh term table parts named says is =
      says_bit board.width n.f (board.width - 1) term (λ x. (answer_net board store p x).f) table is says.f
  says_bit_term n bit term table parts named says is = says_early n.line bit term table parts named says.line is

  -- a bit turned over
  pub says_turned : (bit term : ℕ) (h : Scene → Bool) → IsTable t → Is t (Not bit) term
      → Says board store t words m p 1 bit (λ x. num (h x)) → Says board store t words m p 1 term (λ x. num (not (h x)))
  says_turned bit term h table is says =
      says_as 1 term (λ x. complement 1 (num (h x))) (λ x. num (not (h x)))
      (says_not 1 bit term (λ x. num (h x)) table is says) (λ given x seen. complement_bit (h x))

  -- whether two bits differ
  pub says_differ : (a b term : ℕ) (g h : Scene → Bool) → IsTable t → Is t (Xor a b) term
      → Says board store t words m p 1 a (λ x. num (g x)) → Says board store t words m p 1 b (λ x. num (h x))
      → Says board store t words m p 1 term (λ x. num (differ (g x) (h x)))
  says_differ a b term g h table is first second =
      says_as 1 term (λ x. bit_xor (num (g x)) (num (h x))) (λ x. num (differ (g x) (h x)))
      (says_xor 1 a b term (λ x. num (g x)) (λ x. num (h x)) table is first second)
      (λ given x seen. xor_bits (g x) (h x))

  -- what a flip-flop takes, whose old value was this
  pub says_loaded : (n : Sources) (load : Load) (old term : ℕ) (h : Scene → Bool) → IsTable t → AreParts board t p.parts
      → valid.IsLoad board.width (length board.flipflop) load → SaySources board store t words m p n
      → Says board store t words m p 1 old (λ x. num (h x)) → IsLoaded load board t p.parts p.sp n old term
      → Says board store t words m p 1 term
      (λ x. num (loaded board load (h x) (answer_net board store p x) x.state x.outside))
  says_loaded n loads.Hold old term h table parts named says held is = says_same 1 old term (λ x. num (h x)) is held
  says_loaded n loads.Invert old term h table parts named says held is = says_turned old term h table is held
  says_loaded n loads.XorCarry old term h table parts named says held is =
      says_differ old is.0 term h (λ x. carry_net (answer_net board store p x) x.outside) table is.2 held
      (says_carry n is.0 table says is.1)
  says_loaded n (loads.Take bit) old term h table parts named says held is =
      says_bit_term n bit term table parts named says is
