-- What a cycle has read says of its nets.
use Rattle.std.proofs.Common.{◌≡◌, ℕ, List, slice_index, subst}
use Rattle.std.specs.Prelude.{Bool, true, false}
use Rattle.mw_base.specs.Words.{differ, num}
use Rattle.mw_alu.specs.declared.instruction.Destination.{Destination}
use Rattle.mw_alu.specs.declared.instruction.Destination.TheVariants.{Rama}
use Rattle.mw_alu.specs.declared.instruction.Function.{Function}
use Rattle.mw_alu.specs.Instruction.{destination_of, function_of, source_of}
use Rattle.mw_alu.specs.WholeWord.{addend_r, addend_s, alu_of, y_of}
use Rattle.mw_board.specs.declared.parts.BoardParts.{BoardParts}
use Rattle.mw_board.specs.Valid as valid
use Rattle.mw_cycle.specs.declared.elements.Element.TheVariants.{Register, Q}
use Rattle.mw_cycle.specs.Cycle.{answer_of, bit_value, from_source, operands_of}
use Rattle.mw_cycle.specs.Microword.{IsMicroword}
use Rattle.mw_term.specs.Table.{Table, IsTable}
use Rattle.mw_term.specs.declared.word.Word.{Word}
use Rattle.mw_symmem.specs.Memory.{Memory}
use Rattle.mw_symboard.specs.declared.reading.Reading.{Reading}
use Rattle.mw_symboard.specs.Cycle.{IsReading, IsTurned}
use Rattle.mw_cycle.specs.ReadingWords.{y_term}
use Rattle.mw_symboard.specs.Made.{IsF}
use Rattle.mw_symboard.specs.Parts.{AreParts}
use Rattle.mw_symboard.specs.Seen.{Progress, Says, Scene, answer_net, condition_net, d_net, microword_of}
use Rattle.mw_symboard.proofs.Meaning.{says_addend_r, says_addend_s, says_answer, says_d, says_element, says_r, says_s}
use Rattle.mw_symboard.proofs.Meaning.{says_source}
use Rattle.mw_symboard.specs.Nets.{carry_in_net, first_net, r_net, s_net, second_net, SaySources, SaysReading}
use Rattle.mw_symboard.proofs.Saying.{says_same}
use Rattle.mw_symboard.proofs.SaysBits.{says_bit_term, says_early, says_turned}

module _ {board : BoardParts} {store : List ℕ} {t : Table} {words : List Word} {m : Memory} {p : Progress} where
  -- Y is A in RAMA, and else F
  says_y_term : (destination : Destination) (w a f y : ℕ) (g h : Scene → ℕ) → y ≡ y_term destination a f
      → Says board store t words m p w a g → Says board store t words m p w f h
      → Says board store t words m p w y (λ x. y_of destination (g x) (h x))
  says_y_term Rama w a f y g h is first second = says_same w a y g is first
  says_y_term destination w a f y g h is first second = says_same w f y h is second

  -- Y
  says_y : (f y : ℕ) → AreParts board t p.parts → IsMicroword board (microword_of board store p)
      → y ≡ y_term (destination_of (microword_of board store p).instruction)
      (slice_index p.parts.regs (microword_of board store p).a_address) f
      → Says board store t words m p board.width f (λ x. (answer_net board store p x).f)
      → Says board store t words m p board.width y (λ x. (answer_net board store p x).y)
  unfolding answer_of operands_of alu_of
  says_y f y parts micro is says =
      says_y_term (destination_of (microword_of board store p).instruction) board.width
      (slice_index p.parts.regs (microword_of board store p).a_address) f y
      (λ x. slice_index x.state.regs (microword_of board store p).a_address) (λ x. (answer_net board store p x).f) is
      (says_element (Register (microword_of board store p).a_address) parts micro.a_address) says

  -- a bit that is turned over where polarity is 1
  says_by_polarity : (polarity : Bool) (bit term : ℕ) (h : Scene → Bool) → IsTable t → IsTurned polarity t bit term
      → Says board store t words m p 1 bit (λ x. num (h x))
      → Says board store t words m p 1 term (λ x. num (differ polarity (h x)))
  says_by_polarity true bit term h table is says = says_turned bit term h table is says
  says_by_polarity false bit term h table is says = says_same 1 bit term (λ x. num (h x)) is says

  -- the operand R
  reading_r : (made : Reading) → IsTable t → valid.IsBoard board → AreParts board t p.parts
      → IsMicroword board (microword_of board store p)
      → (is : IsReading board (microword_of board store p) t words m p made)
      → Says board store t words m p board.width is.first (r_net board store p)
  reading_r made table good parts micro is =
      says_r (source_of (microword_of board store p).instruction) board.width
      (slice_index p.parts.regs (microword_of board store p).a_address) is.d is.first
      (λ x. slice_index x.state.regs (microword_of board store p).a_address) (d_net board store p) table is.operand_r
      (says_element (Register (microword_of board store p).a_address) parts micro.a_address)
      (says_d made.source is.d table good parts micro is.source is.source_wide is.masked)

  -- the operand S
  reading_s : (made : Reading) → IsTable t → AreParts board t p.parts
      → IsMicroword board (microword_of board store p)
      → (is : IsReading board (microword_of board store p) t words m p made)
      → Says board store t words m p board.width is.second (s_net board store p)
  reading_s made table parts micro is =
      says_s (source_of (microword_of board store p).instruction) board.width
      (slice_index p.parts.regs (microword_of board store p).a_address)
      (slice_index p.parts.regs (microword_of board store p).b_address) p.parts.q is.second
      (λ x. slice_index x.state.regs (microword_of board store p).a_address)
      (λ x. slice_index x.state.regs (microword_of board store p).b_address) (λ x. x.state.q) table is.operand_s
      (says_element (Register (microword_of board store p).a_address) parts micro.a_address)
      (says_element (Register (microword_of board store p).b_address) parts micro.b_address)
      (says_element Q parts tt)

  -- the variable of the line
  reading_line : (made : Reading) → (is : IsReading board (microword_of board store p) t words m p made)
      → Says board store t words m p 1 made.sources.line (λ x. num x.outside.line)
  reading_line made is = record {
    wide = is.sources.line;
    value = λ given x seen. seen.outside.line made.sources.line is.line;
  }

  -- what the bits are made of
  pub says_sources : (made : Reading) → IsTable t → valid.IsBoard board → AreParts board t p.parts
      → IsMicroword board (microword_of board store p) → IsReading board (microword_of board store p) t words m p made
      → SaySources board store t words m p made.sources
  says_sources made table good parts micro is =
      let function = function_of (microword_of board store p).instruction in
      let r = reading_r made table good parts micro is in
      let s = reading_s made table parts micro is in
      let first : Says board store t words m p board.width made.sources.first (first_net board store p) =
      subst (λ (f : Function). Says board store t words m p board.width made.sources.first
      (λ x. addend_r f board.width (r_net board store p x))) is.function
      (says_addend_r made.sources.function board.width is.first made.sources.first
      (r_net board store p) table is.addend_r r) in
      let second : Says board store t words m p board.width made.sources.second (second_net board store p) =
      subst (λ (f : Function). Says board store t words m p board.width made.sources.second
      (λ x. addend_s f board.width (s_net board store p x))) is.function
      (says_addend_s made.sources.function board.width is.second made.sources.second
      (s_net board store p) table is.addend_s s) in
      let line = reading_line made is in
      let carry : Says board store t words m p 1 made.sources.carry (λ x. num (carry_in_net board store p x)) =
      says_early made.sources.line
      (microword_of board store p).carry_in made.sources.carry table parts micro.carry_in line is.carry in
      let made_f : IsF t function is.first is.second made.sources.first made.sources.second made.sources.carry
      made.sources.f =
      subst (λ (f : Function). IsF t f is.first is.second made.sources.first made.sources.second made.sources.carry
      made.sources.f) is.function is.f in
      record {
        line = line;
        noise = record {
          wide = is.sources.noise;
          value = λ given x seen. seen.outside.noise made.sources.noise is.noise;
        };
        function = is.function;
        first = first;
        second = second;
        carry = carry;
        f = says_answer is.first is.second made.sources.first made.sources.second made.sources.carry made.sources.f
            table made_f r s first second carry;
      }

  -- all of it
  pub says_reading : (made : Reading) → IsTable t → valid.IsBoard board → AreParts board t p.parts
      → IsMicroword board (microword_of board store p) → IsReading board (microword_of board store p) t words m p made
      → SaysReading board store t words m p made
  says_reading made table good parts micro is =
      let sources = says_sources made table good parts micro is in
      record {
        sources = sources;
        source = says_source (microword_of board store p).word
            (microword_of board store p).d.from made.source table good parts micro.d.from is.source is.source_wide;
        y = says_y made.sources.f made.y parts micro is.y sources.f;
        condition = says_by_polarity (microword_of board store p).polarity is.bit made.condition
            (λ x. bit_value board (microword_of board store p).condition (answer_net board store p x) x.state x.outside)
            table is.condition
            (says_bit_term made.sources
            (microword_of board store p).condition is.bit table parts micro.condition sources is.tested);
      }
