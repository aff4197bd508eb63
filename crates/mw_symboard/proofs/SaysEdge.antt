-- What the terms that are written at the edge say of a cycle's nets.
use Rattle.std.proofs.Common.{◌≡◌, ℕ, ◌+◌, ◌-◌, ◌*◌, ◌/◌, ◌%◌, ◌^◌, ◌<◌, ◌≤◌, List, length, ap, ap₂, arith, sym, ◌∙◌}
use Rattle.std.specs.Prelude.{Bool, true, false, Option, Some, None}
use Rattle.std.proofs.lemmas.Nat.{div_below, mod-pow-add, pow-add}
use Rattle.mw_base.specs.Words.{join, num, part}
use Rattle.mw_alu.specs.declared.instruction.Destination.{Destination}
use Rattle.mw_alu.specs.declared.instruction.Destination.TheVariants as destinations
use Rattle.mw_alu.specs.WholeWord.{b_of, down, q_of, up, writes_b, writes_q}
use Rattle.mw_board.specs.declared.bit.Bit.{Bit}
use Rattle.mw_board.specs.declared.parts.BoardParts.{BoardParts}
use Rattle.mw_board.specs.Valid as valid
use Rattle.mw_cycle.specs.declared.elements.Element.TheVariants.{Q}
use Rattle.mw_cycle.specs.Cycle.{bit_value, pins_of}
use Rattle.mw_cycle.specs.Microword.{IsMicroword}
use Rattle.mw_term.specs.Table.{Table, IsTable}
use Rattle.mw_term.specs.declared.word.Word.{Word}
use Rattle.mw_symmem.specs.Memory.{Memory}
use Rattle.mw_symboard.specs.declared.bits.Sources.{Sources}
use Rattle.mw_symboard.specs.Made.{IsDown, IsShiftedDown, IsShiftedUp, IsUp, IsWrittenB, IsWrittenQ}
use Rattle.mw_symboard.specs.Parts.{AreParts}
use Rattle.mw_symboard.specs.Seen.{Progress, Says, Scene, answer_net, microword_of}
use Rattle.mw_symboard.proofs.Meaning.{low_bits, says_element}
use Rattle.mw_symboard.proofs.Saying.{says_as, says_below, says_join, says_part, says_wide}
use Rattle.mw_symboard.proofs.SaysBits.{says_bit_term}
use Rattle.mw_symboard.specs.Nets.{SaySources}

-- a word shifted down, by its parts
down_parts : (w x : ℕ) (high : Bool) → 1 ≤ w → x < 2 ^ w → join (w - 1) (num high) (part 1 (w - 1) x) ≡ down w x high
down_parts w x high some below =
    let size : 2 ^ w ≡ 2 ^ (w - 1) * 2 = ap (λ (k : ℕ). 2 ^ k) (omega arith) ∙ pow-add 2 (w - 1) 1 in
    let half : x / 2 < 2 ^ (w - 1) = div_below x 2 (2 ^ (w - 1)) (omega arith) (omega (arith, size)) in
    let rest : x / 2 ^ 1 % 2 ^ (w - 1) ≡ x / 2 = low_bits (x / 2) (w - 1) half in
    ap (λ (n : ℕ). num high * 2 ^ (w - 1) + n) rest ∙ omega arith

-- a word shifted up, by its parts
up_parts : (w x : ℕ) (low : Bool) → 1 ≤ w → join 1 (part 0 (w - 1) x) (num low) ≡ up w x low
up_parts w x low some =
    let whole : w ≡ w - 1 + 1 = omega arith in
    let one : x / 2 ^ 0 ≡ x = omega arith in
    let half : 2 * x / 2 ^ 1 ≡ x = omega arith in
    let even : 2 * x % 2 ^ 1 ≡ 0 = omega arith in
    let cut : 2 * x % 2 ^ w ≡ x % 2 ^ (w - 1) * 2 =
    ap (λ (k : ℕ). 2 * x % 2 ^ k) whole ∙ mod-pow-add (2 * x) (w - 1) 1
    ∙ ap₂ (λ (n o : ℕ). n % 2 ^ (w - 1) * 2 + o) half even ∙ omega arith in
    ap (λ (n : ℕ). n % 2 ^ (w - 1) * 2 + num low) one ∙ ap (λ (n : ℕ). n + num low) (sym cut)

-- a term that is written says a net, where one is written
abbrev pub SaysTaken : (writes : Bool)
    → BoardParts → List ℕ → Table → List Word → Memory → Progress → (width : ℕ) → Option ℕ → (Scene → ℕ) → Type 0
SaysTaken false board store t words m p width o net = o ≡ None
SaysTaken true board store t words m p width o net =
    (term : ℕ) × (o ≡ Some term) × Says board store t words m p width term net

module _ {board : BoardParts} {store : List ℕ} {t : Table} {words : List Word} {m : Memory} {p : Progress} where
  -- a word shifted down
  pub says_down : (w word high term : ℕ) (f : Scene → ℕ) (h : Scene → Bool)
      → IsTable t → 1 ≤ w → IsDown t w word high term
      → Says board store t words m p w word f → Says board store t words m p 1 high (λ x. num (h x))
      → Says board store t words m p w term (λ x. down w (f x) (h x))
  says_down w word high term f h table some is says bit =
      let whole : 1 + (w - 1) ≡ w = omega arith in
      says_as w term (λ x. join (w - 1) (num (h x)) (part 1 (w - 1) (f x))) (λ x. down w (f x) (h x))
      (says_wide (1 + (w - 1)) w term (λ x. join (w - 1) (num (h x)) (part 1 (w - 1) (f x))) whole
      (says_join 1 (w - 1) high is.0 term (λ x. num (h x)) (λ x. part 1 (w - 1) (f x)) table is.2 bit
      (says_part w word 1 (w - 1) is.0 f table is.1 says)))
      (λ given x seen. down_parts w (f x) (h x) some (says_below w word f table says given x seen))

  -- a word shifted up
  pub says_up : (w word low term : ℕ) (f : Scene → ℕ) (h : Scene → Bool) → IsTable t → 1 ≤ w → IsUp t w word low term
      → Says board store t words m p w word f → Says board store t words m p 1 low (λ x. num (h x))
      → Says board store t words m p w term (λ x. up w (f x) (h x))
  says_up w word low term f h table some is says bit =
      let whole : w - 1 + 1 ≡ w = omega arith in
      says_as w term (λ x. join 1 (part 0 (w - 1) (f x)) (num (h x))) (λ x. up w (f x) (h x))
      (says_wide (w - 1 + 1) w term (λ x. join 1 (part 0 (w - 1) (f x)) (num (h x))) whole
      (says_join (w - 1) 1 is.0 low term (λ x. part 0 (w - 1) (f x)) (λ x. num (h x)) table is.2
      (says_part w word 0 (w - 1) is.0 f table is.1 says) bit))
      (λ given x seen. up_parts w (f x) (h x) some)

  -- a word shifted down by a link
  says_shifted_down : (n : Sources) (link : Bit) (word : ℕ) (o : Option ℕ) (f : Scene → ℕ) → IsTable t
      → valid.IsBoard board → AreParts board t p.parts → valid.IsBit board.width (length board.flipflop) link
      → SaySources board store t words m p n → Says board store t words m p board.width word f
      → IsShiftedDown board t p.parts p.sp n link word o
      → SaysTaken true board store t words m p board.width o
      (λ x. down board.width (f x) (bit_value board link (answer_net board store p x) x.state x.outside))
  says_shifted_down n link word o f table good parts named says held is = (
    is.1,
    is.2,
    says_down board.width word is.0 is.1 f
        (λ x. bit_value board link (answer_net board store p x) x.state x.outside) table
        (omega (arith, good.sizes.least)) is.4 held (says_bit_term n link is.0 table parts named says is.3),
  )

  -- a word shifted up by a link
  says_shifted_up : (n : Sources) (link : Bit) (word : ℕ) (o : Option ℕ) (f : Scene → ℕ) → IsTable t
      → valid.IsBoard board → AreParts board t p.parts → valid.IsBit board.width (length board.flipflop) link
      → SaySources board store t words m p n → Says board store t words m p board.width word f
      → IsShiftedUp board t p.parts p.sp n link word o
      → SaysTaken true board store t words m p board.width o
      (λ x. up board.width (f x) (bit_value board link (answer_net board store p x) x.state x.outside))
  says_shifted_up n link word o f table good parts named says held is = (
    is.1,
    is.2,
    says_up board.width word is.0 is.1 f
        (λ x. bit_value board link (answer_net board store p x) x.state x.outside) table
        (omega (arith, good.sizes.least)) is.4 held (says_bit_term n link is.0 table parts named says is.3),
  )

  -- what the register that B addresses takes
  pub says_written_b : (destination : Destination) (n : Sources) (o : Option ℕ) → IsTable t → valid.IsBoard board
      → AreParts board t p.parts → IsMicroword board (microword_of board store p) → SaySources board store t words m p n
      → IsWrittenB destination board (microword_of board store p) t p.parts p.sp n o
      → SaysTaken (writes_b destination) board store t words m p board.width o
      (λ x. b_of destination board.width (answer_net board store p x).f
      (pins_of board (microword_of board store p) (answer_net board store p x) x.state x.outside))
  unfolding pins_of
  says_written_b destinations.Qreg n o table good parts micro says is = is
  says_written_b destinations.Nop n o table good parts micro says is = is
  says_written_b destinations.Rama n o table good parts micro says is = (n.f, is, says.f)
  says_written_b destinations.Ramf n o table good parts micro says is = (n.f, is, says.f)
  says_written_b destinations.Ramqd n o table good parts micro says is =
      says_shifted_down n (microword_of board store p).ram_link n.f o (λ x. (answer_net board store p x).f)
      table good parts micro.ram_link says says.f is
  says_written_b destinations.Ramd n o table good parts micro says is =
      says_shifted_down n (microword_of board store p).ram_link n.f o (λ x. (answer_net board store p x).f)
      table good parts micro.ram_link says says.f is
  says_written_b destinations.Ramqu n o table good parts micro says is =
      says_shifted_up n (microword_of board store p).ram_link n.f o (λ x. (answer_net board store p x).f)
      table good parts micro.ram_link says says.f is
  says_written_b destinations.Ramu n o table good parts micro says is =
      says_shifted_up n (microword_of board store p).ram_link n.f o (λ x. (answer_net board store p x).f)
      table good parts micro.ram_link says says.f is

  -- what Q takes
  pub says_written_q : (destination : Destination) (n : Sources) (o : Option ℕ) → IsTable t → valid.IsBoard board
      → AreParts board t p.parts → IsMicroword board (microword_of board store p) → SaySources board store t words m p n
      → IsWrittenQ destination board (microword_of board store p) t p.parts p.sp n o
      → SaysTaken (writes_q destination) board store t words m p board.width o
      (λ x. q_of destination board.width (answer_net board store p x).f x.state.q
      (pins_of board (microword_of board store p) (answer_net board store p x) x.state x.outside))
  unfolding pins_of
  says_written_q destinations.Qreg n o table good parts micro says is = (n.f, is, says.f)
  says_written_q destinations.Ramqd n o table good parts micro says is =
      says_shifted_down n (microword_of board store p).q_link p.parts.q o
      (λ x. x.state.q) table good parts micro.q_link says (says_element Q parts tt) is
  says_written_q destinations.Ramqu n o table good parts micro says is =
      says_shifted_up n (microword_of board store p).q_link p.parts.q o
      (λ x. x.state.q) table good parts micro.q_link says (says_element Q parts tt) is
  says_written_q destination n o table good parts micro says is = is
