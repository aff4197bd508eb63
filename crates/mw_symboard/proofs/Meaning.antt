-- What the terms of elements, of D and of F say of a cycle's nets.
use Rattle.std.proofs.Common.{◌≡◌, inl, inr, ℕ, ◌+◌, ◌-◌, ◌*◌, ◌/◌, ◌%◌, ◌^◌, ◌<◌, ◌≤◌, List, length, slice_index, ap}
use Rattle.std.proofs.Common.{ap₂, arith, sym, ◌∙◌}
use Rattle.std.specs.Prelude.{Bool, Option, Some, None, slice_get, bit_xor}
use Rattle.std.proofs.lemmas.Nat.{mod_low}
use Rattle.mw_base.specs.Words.{bit_of, complement, join, num, part}
use Rattle.mw_alu.specs.declared.instruction.Function.{Function}
use Rattle.mw_alu.specs.declared.instruction.Function.TheVariants as functions
use Rattle.mw_alu.specs.declared.instruction.Source.{Source}
use Rattle.mw_alu.specs.declared.instruction.Source.TheVariants as operands
use Rattle.mw_alu.specs.Instruction.{function_of, source_of}
use Rattle.mw_alu.specs.WholeWord.{addend_r, addend_s, alu_of, f_of, r_of, s_of}
use Rattle.mw_board.specs.declared.bit.DFrom.{DFrom}
use Rattle.mw_board.specs.declared.bit.DFrom.TheVariants as sources
use Rattle.mw_board.specs.declared.parts.BoardParts.{BoardParts}
use Rattle.mw_board.specs.Valid as valid
use Rattle.mw_cycle.specs.declared.elements.Element.{Element}
use Rattle.mw_cycle.specs.declared.elements.Element.TheVariants.{Mar, Ir, FlipFlop}
use Rattle.mw_cycle.specs.Control.{in_field}
use Rattle.mw_cycle.specs.Cycle.{answer_of, early_bit, from_source, masked, operands_of}
use Rattle.mw_cycle.specs.Elements.{IsElement, bits_of, value_of}
use Rattle.mw_cycle.specs.Microword.{IsMicroword}
use Rattle.mw_term.specs.Table.{Table, IsTable}
use Rattle.mw_term.specs.declared.word.Word.{Word}
use Rattle.mw_symmem.specs.Memory.{Memory, IsOfWidth}
use Rattle.mw_symboard.specs.Nets.{first_net, r_net, s_net, carry_in_net, second_net}
use Rattle.mw_symboard.specs.Made.{IsAddendR, IsAddendS, IsF, IsFrom, IsMasked, IsPart, IsR, IsS, IsWidened}
use Rattle.mw_symboard.specs.Parts.{AreParts}
use Rattle.mw_cycle.specs.BoardTerms.{term_of_part}
use Rattle.mw_symboard.specs.Seen.{Progress, Says, Scene, answer_net, d_net, microword_of}
use Rattle.mw_symboard.proofs.Saying.{says_and, says_as, says_below, says_con, says_join, says_not, says_or, says_part}
use Rattle.mw_symboard.proofs.Saying.{says_same, says_sum, says_wide, says_xor}

-- a word is its own low bits
pub low_bits : (x w : ℕ) → x < 2 ^ w → x % 2 ^ w ≡ x
low_bits x w below =
    let whole : x ≡ 0 * 2 ^ w + x = omega arith in
    ap (λ (n : ℕ). n % 2 ^ w) whole ∙ mod_low 0 w x below

-- all bits of a word are the word
whole_part : (low v w x : ℕ) → low ≡ 0 → v ≡ w → x < 2 ^ w → x ≡ part low v x
whole_part low v w x none all below =
    let first : x / 2 ^ low ≡ x = ap (λ (k : ℕ). x / 2 ^ k) none ∙ omega arith in
    sym (ap₂ (λ (n k : ℕ). n % 2 ^ k) first all ∙ low_bits x w below)

module _ {board : BoardParts} {store : List ℕ} {t : Table} {words : List Word} {m : Memory} {p : Progress} where
  -- the term of an element says what the element has
  pub says_element : (e : Element) → AreParts board t p.parts → IsElement board e
      → Says board store t words m p (bits_of board e) (term_of_part p.parts e) (λ x. value_of x.state e)
  says_element e parts is = record { wide = parts.wide e is; value = λ given x seen. sym (seen.state.elements e is) }

  -- a widened term says what the narrow one does
  pub says_widened : (from to narrow term : ℕ) (f : Scene → ℕ) → IsTable t → IsWidened t from to narrow term → from ≤ to
      → Says board store t words m p from narrow f → Says board store t words m p to term f
  says_widened from to narrow term f table (inl same) within says =
      says_same to narrow term f same.1 (says_wide from to narrow f same.0 says)
  says_widened from to narrow term f table (inr made) within says =
      let whole : to - from + from ≡ to = omega arith in
      says_wide (to - from + from) to term f whole
      (says_as (to - from + from) term (λ x. join from 0 (f x)) f
      (says_join (to - from) from made.0 narrow term (λ x. 0) f table made.2
      (says_con 0 (to - from) made.0 table made.1) says)
      (λ given x seen. omega arith))

  -- a part, which is the whole where it has all bits
  pub says_piece : (w whole low v term : ℕ) (f : Scene → ℕ) → IsTable t → IsPart t w whole low v term
      → Says board store t words m p w whole f → Says board store t words m p v term (λ x. part low v (f x))
  says_piece w whole low v term f table (inl same) says =
      says_as v term f (λ x. part low v (f x))
      (says_same v whole term f same.2 (says_wide w v whole f (sym same.0) says))
      (λ given x seen. whole_part low v w (f x) same.1 same.0 (says_below w whole f table says given x seen))
  says_piece w whole low v term f table (inr made) says = says_part w whole low v term f table made says

  -- the low bits of a word
  pub says_low : (w whole v term : ℕ) (f : Scene → ℕ) → IsTable t → IsPart t w whole 0 v term
      → Says board store t words m p w whole f → Says board store t words m p v term (λ x. f x % 2 ^ v)
  says_low w whole v term f table is says =
      says_as v term (λ x. part 0 v (f x)) (λ x. f x % 2 ^ v) (says_piece w whole 0 v term f table is says)
      (λ given x seen. let one : f x / 2 ^ 0 ≡ f x = omega arith in ap (λ (n : ℕ). n % 2 ^ v) one)

  -- ---- D

  -- what a source is behind its mask
  pub says_masked : (w : ℕ) (mask : Option ℕ) (whole term : ℕ) (f : Scene → ℕ)
      → IsTable t → IsMasked t w mask whole term
      → Says board store t words m p w whole f → Says board store t words m p w term (λ x. masked mask (f x))
  says_masked w None whole term f table is says = says_same w whole term f is says
  says_masked w (Some mask) whole term f table is says =
      says_and w whole is.0 term f (λ x. mask) table is.2 says (says_con mask w is.0 table is.1)

  -- a source of D
  pub says_source : (word : ℕ) (from : DFrom) (term : ℕ) → IsTable t → valid.IsBoard board → AreParts board t p.parts
      → valid.IsFrom (length board.fields) (length board.flipflop) from
      → IsFrom board word t words m p.side p.parts p.taken from term → IsOfWidth t board.width term
      → Says board store t words m p board.width term (λ x. from_source board word from x.state x.outside)
  unfolding from_source
  says_source word sources.Zero term table good parts named is wide = says_con 0 board.width term table is
  says_source word sources.Memory term table good parts named is wide = record {
    wide = wide;
    value = λ given x seen. is given x.image seen.image seen.fit
        ∙ ap₂ slice_index (sym seen.state.memory) (sym (seen.state.elements Mar tt));
  }
  says_source word sources.Ir term table good parts named is wide =
      says_same board.width p.parts.ir term (λ x. x.state.ir) is (says_element Ir parts tt)
  says_source word sources.Mar term table good parts named is wide =
      says_widened board.address board.width p.parts.mar term (λ x. x.state.mar) table is good.sizes.address_within
      (says_element Mar parts tt)
  says_source word sources.Input term table good parts named is wide = record {
    wide = wide;
    value = λ given x seen. seen.outside.input term is;
  }
  says_source word (sources.Field n) term table good parts named is wide =
      says_con (in_field (slice_get board.fields n) word % 2 ^ board.width) board.width term table is
  says_source word (sources.Flip n) term table good parts named is wide =
      says_widened 1 board.width (slice_index p.parts.flips n) term (λ x. num (bit_of x.state.flips n)) table is
      (omega (arith, good.sizes.least)) (says_element (FlipFlop n) parts named)

  -- D
  pub says_d : (source term : ℕ) → IsTable t → valid.IsBoard board → AreParts board t p.parts
      → IsMicroword board (microword_of board store p)
      → IsFrom board (microword_of board store p).word t words m p.side p.parts p.taken
      (microword_of board store p).d.from source
      → IsOfWidth t board.width source → IsMasked t board.width (microword_of board store p).d.mask source term
      → Says board store t words m p board.width term (d_net board store p)
  says_d source term table good parts micro is wide behind =
      says_masked board.width (microword_of board store p).d.mask source term
      (λ x. from_source board (microword_of board store p).word (microword_of board store p).d.from x.state x.outside)
      table behind
      (says_source (microword_of board store p).word
      (microword_of board store p).d.from source table good parts micro.d.from is wide)

  -- ---- F

  -- the operand R
  pub says_r : (source : Source) (w a d term : ℕ) (f g : Scene → ℕ) → IsTable t → IsR t w source a d term
      → Says board store t words m p w a f → Says board store t words m p w d g
      → Says board store t words m p w term (λ x. r_of source (f x) (g x))
  says_r operands.Aq w a d term f g table is first second = says_same w a term f is first
  says_r operands.Ab w a d term f g table is first second = says_same w a term f is first
  says_r operands.Zq w a d term f g table is first second = says_con 0 w term table is
  says_r operands.Zb w a d term f g table is first second = says_con 0 w term table is
  says_r operands.Za w a d term f g table is first second = says_con 0 w term table is
  says_r operands.Da w a d term f g table is first second = says_same w d term g is second
  says_r operands.Dq w a d term f g table is first second = says_same w d term g is second
  says_r operands.Dz w a d term f g table is first second = says_same w d term g is second

  -- the operand S
  pub says_s : (source : Source) (w a b q term : ℕ) (f g h : Scene → ℕ) → IsTable t → IsS t w source a b q term
      → Says board store t words m p w a f → Says board store t words m p w b g → Says board store t words m p w q h
      → Says board store t words m p w term (λ x. s_of source (f x) (g x) (h x))
  says_s operands.Aq w a b q term f g h table is first second third = says_same w q term h is third
  says_s operands.Ab w a b q term f g h table is first second third = says_same w b term g is second
  says_s operands.Zq w a b q term f g h table is first second third = says_same w q term h is third
  says_s operands.Zb w a b q term f g h table is first second third = says_same w b term g is second
  says_s operands.Za w a b q term f g h table is first second third = says_same w a term f is first
  says_s operands.Da w a b q term f g h table is first second third = says_same w a term f is first
  says_s operands.Dq w a b q term f g h table is first second third = says_same w q term h is third
  says_s operands.Dz w a b q term f g h table is first second third = says_con 0 w term table is

  -- what is added for R
  pub says_addend_r : (function : Function) (w r term : ℕ) (f : Scene → ℕ) → IsTable t → IsAddendR t function r term
      → Says board store t words m p w r f → Says board store t words m p w term (λ x. addend_r function w (f x))
  says_addend_r functions.Subr w r term f table is says = says_not w r term f table is says
  says_addend_r function w r term f table is says = says_same w r term f is says

  -- what is added for S
  pub says_addend_s : (function : Function) (w s term : ℕ) (f : Scene → ℕ) → IsTable t → IsAddendS t function s term
      → Says board store t words m p w s f → Says board store t words m p w term (λ x. addend_s function w (f x))
  says_addend_s functions.Subs w s term f table is says = says_not w s term f table is says
  says_addend_s function w s term f table is says = says_same w s term f is says

  -- the word F
  pub says_f : (function : Function) (w r s first second carry term : ℕ) (f g : Scene → ℕ) (h : Scene → Bool)
      → IsTable t → IsF t function r s first second carry term
      → Says board store t words m p w r f → Says board store t words m p w s g
      → Says board store t words m p w first (λ x. addend_r function w (f x))
      → Says board store t words m p w second (λ x. addend_s function w (g x))
      → Says board store t words m p 1 carry (λ x. num (h x))
      → Says board store t words m p w term (λ x. f_of function w (f x) (g x) (h x))
  unfolding f_of
  says_f functions.Or w r s first second carry term f g h table is says_first says_second one two in_carry =
      says_or w r s term f g table is says_first says_second
  says_f functions.And w r s first second carry term f g h table is says_first says_second one two in_carry =
      says_and w r s term f g table is says_first says_second
  says_f functions.Notrs w r s first second carry term f g h table is says_first says_second one two in_carry =
      says_and w is.0 s term (λ x. complement w (f x)) g table is.2
      (says_not w r is.0 f table is.1 says_first) says_second
  says_f functions.Exor w r s first second carry term f g h table is says_first says_second one two in_carry =
      says_xor w r s term f g table is says_first says_second
  says_f functions.Exnor w r s first second carry term f g h table is says_first says_second one two in_carry =
      says_not w is.0 term (λ x. bit_xor (f x) (g x)) table is.2
      (says_xor w r s is.0 f g table is.1 says_first says_second)
  says_f function w r s first second carry term f g h table is says_first says_second one two in_carry =
      says_sum w first second carry term (λ x. addend_r function w (f x))
      (λ x. addend_s function w (g x)) h table is one two in_carry

  -- the Am2901's F
  pub says_answer : (r s first second carry term : ℕ) → IsTable t
      → IsF t (function_of (microword_of board store p).instruction) r s first second carry term
      → Says board store t words m p board.width r (r_net board store p)
      → Says board store t words m p board.width s (s_net board store p)
      → Says board store t words m p board.width first (first_net board store p)
      → Says board store t words m p board.width second (second_net board store p)
      → Says board store t words m p 1 carry (λ x. num (carry_in_net board store p x))
      → Says board store t words m p board.width term (λ x. (answer_net board store p x).f)
  unfolding answer_of operands_of alu_of
  says_answer r s first second carry term table is says_first says_second one two in_carry =
      says_f (function_of (microword_of board store p).instruction) board.width r s first second carry term
      (r_net board store p) (s_net board store p)
      (carry_in_net board store p) table is says_first says_second one two in_carry
