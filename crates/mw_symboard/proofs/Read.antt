-- What a cycle has read, from what it has made one after the other.
use Rattle.std.proofs.Common.{◌≡◌, inl, ℕ, ◌<◌, List, [], length, slice_index, Some, ap, subst, ◌∙◌}
use Rattle.mw_alu.specs.declared.instruction.Destination.{Destination}
use Rattle.mw_alu.specs.declared.instruction.Destination.TheVariants.{Rama}
use Rattle.mw_alu.specs.declared.instruction.Source.{Source}
use Rattle.mw_alu.specs.Instruction.{source_of, function_of, destination_of}
use Rattle.mw_board.specs.declared.parts.BoardParts.{BoardParts}
use Rattle.mw_cycle.specs.declared.elements.Element.TheVariants.{Mar}
use Rattle.mw_cycle.specs.declared.microword.Microword.{Microword}
use Rattle.mw_term.specs.declared.kinds.WordKind.{WordKind}
use Rattle.mw_term.specs.declared.side.Side.{Side}
use Rattle.mw_cycle.specs.SteadySeries as lists
use Rattle.mw_cycle.specs.SteadySeries.{Noise, kind_of}
use Rattle.std.specs.Option.{option_or}
use Rattle.mw_term.specs.Table.{Table, Extends, IsTable}
use Rattle.mw_term.specs.Values.{Keeps}
use Rattle.mw_term.specs.declared.word.Word.{Word}
use Rattle.mw_symmem.specs.Memory.{Memory, IsOfWidth}
use Rattle.mw_term.specs.WordList.{term_of}
use Rattle.mw_symmem.specs.Workspace.{GoesOn, IsLater, IsWorkspace}
use Rattle.mw_symmem.proofs.Growth.{width_stays}
use Rattle.mw_symmem.proofs.Later.{goes_as, goes_by_growth, goes_then, reads_itself, writes_itself}
use Rattle.mw_cycle.specs.ReadingWords.{MadeBit, y_term}
use Rattle.mw_symboard.specs.declared.bits.Sources.{Sources}
use Rattle.mw_symboard.specs.declared.reading.Reading.{Reading}
use Rattle.mw_symboard.specs.Bits.{AreBits, AreEarlyBits, AreLateBits}
use Rattle.mw_symboard.specs.Cycle.{AreOperands, IsReading, IsTurned}
use Rattle.mw_symboard.specs.Growth.{Grew}
use Rattle.mw_symboard.specs.Kinds.{IsCycleKind, IsSourceKind}
use Rattle.mw_symboard.specs.Made.{IsFrom, IsMasked, IsR, IsS, IsAddendR, IsAddendS, IsF, IsEarlyBit, IsBitTerm}
use Rattle.mw_symboard.specs.Parts.{AreParts}
use Rattle.mw_cycle.specs.BoardTerms.{Parts}
use Rattle.mw_symboard.specs.Seen.{Progress, line_term}
use Rattle.mw_symboard.proofs.Growing.{grew_then, wide_later}
use Rattle.mw_symboard.proofs.Standing.{addend_r_stays, addend_s_stays, early_bit_stays, f_stays, found_stays}
use Rattle.mw_symboard.proofs.Staying.{line_found}
use Rattle.mw_symboard.proofs.Standing.{from_stays, masked_stays, parts_stay, r_stays, s_stays, sources_stay}
use Rattle.mw_symboard.proofs.Variables.{grew_term}

-- ---- what F was made of

pub operands_stay : (board : BoardParts) (m : Microword) (told tnew : Table) (p : Parts) (sp d : ℕ) (n : Sources)
    → Extends told tnew → Keeps told tnew → AreOperands board m told p sp d n → AreOperands board m tnew p sp d n
operands_stay board m told tnew p sp d n extends keeps are =
    let a = slice_index p.regs m.a_address in
    let b = slice_index p.regs m.b_address in
    let source = source_of m.instruction in
    record {
      first = are.first;
      second = are.second;
      carry = early_bit_stays board told tnew p sp n.line m.carry_in n.carry extends are.carry;
      function = are.function;
      operand_r = r_stays told tnew board.width source a d are.first extends are.operand_r;
      operand_s = s_stays told tnew board.width source a b p.q are.second extends are.operand_s;
      addend_r = addend_r_stays told tnew n.function are.first n.first extends are.addend_r;
      addend_s = addend_s_stays told tnew n.function are.second n.second extends are.addend_s;
      f = f_stays told tnew n.function are.first are.second n.first n.second n.carry n.f extends are.f;
      first_wide = width_stays told tnew board.width are.first extends keeps are.first_wide;
      second_wide = width_stays told tnew board.width are.second extends keeps are.second_wide;
      sources = sources_stay board told tnew n extends keeps are.sources;
    }

-- an operand, where its width, its source and its register are known otherwise
pub r_at : (told tnew : Table) (w width : ℕ) (s source : Source) (x a d r : ℕ) → Extends told tnew → w ≡ width
    → s ≡ source → x ≡ a → IsR told w s x d r → IsR tnew width source a d r
r_at told tnew w width s source x a d r extends width_is source_is a_is is =
    subst (λ (n : ℕ). IsR tnew n source a d r) width_is
    (subst (λ (k : Source). IsR tnew w k a d r) source_is
    (subst (λ (n : ℕ). IsR tnew w s n d r) a_is (r_stays told tnew w s x d r extends is)))

module _ (board : BoardParts) (m : Microword) (t1 t2 t3 t4 : Table) (w1 w2 w3 w4 : List Word) (p : Parts) (sp d r s : ℕ)
    (n : Sources) (one : Grew t1 t2 w1 w2) (two : Grew t2 t3 w2 w3) (three : Grew t3 t4 w3 w4) where
  abbrev after_two : Grew t2 t4 w2 w4
  after_two = grew_then t2 t3 t4 w2 w3 w4 two three

  abbrev after_one : Grew t1 t4 w1 w4
  after_one = grew_then t1 t2 t4 w1 w2 w4 one after_two

  -- from the carry in, the operands, what is added for them, and F, in the order in which they are made
  pub operands_are : IsOfWidth t1 1 n.line → IsOfWidth t1 14 n.noise
      → IsEarlyBit board t1 p sp n.line m.carry_in n.carry → IsOfWidth t1 1 n.carry
      → IsR t2 board.width (source_of m.instruction) (slice_index p.regs m.a_address) d r
      → IsS t2 board.width (source_of m.instruction) (slice_index p.regs m.a_address)
      (slice_index p.regs m.b_address) p.q s
      → IsOfWidth t2 board.width r → IsOfWidth t2 board.width s
      → IsAddendR t3 n.function r n.first → IsAddendS t3 n.function s n.second
      → IsOfWidth t3 board.width n.first → IsOfWidth t3 board.width n.second
      → IsF t4 n.function r s n.first n.second n.carry n.f → IsOfWidth t4 board.width n.f
      → n.function ≡ function_of m.instruction → AreOperands board m t4 p sp d n
  operands_are line noise carry carry_wide is_r is_s r_wide s_wide first second first_wide second_wide f f_wide
      function = record {
        first = r;
        second = s;
        carry = early_bit_stays board t1 t4 p sp n.line m.carry_in n.carry after_one.1.extends carry;
        function = function;
        operand_r = r_stays t2 t4 board.width (source_of m.instruction) (slice_index p.regs m.a_address) d r
            after_two.1.extends is_r;
        operand_s = s_stays t2 t4 board.width (source_of m.instruction) (slice_index p.regs m.a_address)
            (slice_index p.regs m.b_address) p.q s after_two.1.extends is_s;
        addend_r = addend_r_stays t3 t4 n.function r n.first three.1.extends first;
        addend_s = addend_s_stays t3 t4 n.function s n.second three.1.extends second;
        f = f;
        first_wide = wide_later t2 t4 w2 w4 board.width r after_two r_wide;
        second_wide = wide_later t2 t4 w2 w4 board.width s after_two s_wide;
        sources = record {
          line = wide_later t1 t4 w1 w4 1 n.line after_one line;
          noise = wide_later t1 t4 w1 w4 14 n.noise after_one noise;
          first = wide_later t3 t4 w3 w4 board.width n.first three first_wide;
          second = wide_later t3 t4 w3 w4 board.width n.second three second_wide;
          carry = wide_later t1 t4 w1 w4 1 n.carry after_one carry_wide;
          f = f_wide;
        };
      }

-- ---- a variable, or a read, behind which there are words that are no variables

pub grew_later : (told tnew : Table) (old new : List Word) → Grew told tnew old new → IsTable told → IsLater told tnew
grew_later told tnew old new grew table =
    record { extends = grew.1.extends; keeps = grew.1.keeps; table = grew.1.table table }

pub grew_from : (board : BoardParts) (word : ℕ) (told tnew : Table) (old new : List Word) (m : Memory)
    (side : Side) (p : Parts) (taken : ℕ) (m_from : Microword) (term : ℕ) → Grew told tnew old new → IsWorkspace told old m
    → p.mar < length told.ops → term < length told.ops → IsFrom board word told old m side p taken m_from.d.from term
    → IsFrom board word tnew new m side p taken m_from.d.from term
grew_from board word told tnew old new m side p taken m_from term grew workspace mar there is =
    rw grew.1.words
    (from_stays board word told tnew old _ m m side p taken m_from.d.from term
    (grew_later told tnew old new grew workspace.table) workspace.memory (reads_itself m)
    (writes_itself m) mar there is)

-- ---- the whole

pub parts_later : (board : BoardParts) (told tnew : Table) (p : Parts) → IsLater told tnew → AreParts board told p
    → AreParts board tnew p
parts_later board told tnew p later are = parts_stay board told tnew p later.extends later.keeps are

pub parts_grew : (board : BoardParts) (told tnew : Table) (old new : List Word) (p : Parts) → Grew told tnew old new
    → AreParts board told p → AreParts board tnew p
parts_grew board told tnew old new p grew are = parts_stay board told tnew p grew.1.extends grew.1.keeps are

pub grew_four : (t1 t2 t3 t4 t5 : Table) (w1 w2 w3 w4 w5 : List Word) → Grew t1 t2 w1 w2 → Grew t2 t3 w2 w3
    → Grew t3 t4 w3 w4 → Grew t4 t5 w4 w5 → Grew t1 t5 w1 w5
grew_four t1 t2 t3 t4 t5 w1 w2 w3 w4 w5 one two three four =
    grew_then t1 t3 t5 w1 w3 w5 (grew_then t1 t2 t3 w1 w2 w3 one two) (grew_then t3 t4 t5 w3 w4 w5 three four)

-- Y has the bits of both that it may be
pub y_wide : (t : Table) (w : ℕ) (destination : Destination) (a f : ℕ) → IsOfWidth t w a → IsOfWidth t w f
    → IsOfWidth t w (y_term destination a f)
y_wide t w Rama a f a_wide f_wide = a_wide
y_wide t w other a f a_wide f_wide = f_wide

-- no late bit was made
pub no_late_bits : (board : BoardParts) (t : Table) (p : Parts) (sp : ℕ) (n : Sources) (made : List MadeBit) → made ≡ []
    → AreLateBits board t p sp n made
no_late_bits board t p sp n made none = rw none (λ k m is. absurd cc)

-- no early bit was made
pub no_early_bits : (board : BoardParts) (t : Table) (p : Parts) (sp line : ℕ) (made : List MadeBit) → made ≡ []
    → AreEarlyBits board t p sp line made
no_early_bits board t p sp line made none = rw none (λ k m is. absurd cc)

-- the line of a cycle where its variable is what it was
line_grew : (old new : List Word) (p : Progress)
    → term_of new (kind_of p.side lists.Line p.cycle) ≡ term_of old (kind_of p.side lists.Line p.cycle)
    → line_term new p ≡ line_term old p
line_grew old new p same = ap (option_or p.line) same

module _ (board : BoardParts) (m : Microword) (p : Progress) (t0 t1 t2 t3 t4 t5 t6 : Table)
    (w0 w1 w2 w3 w4 w5 w6 : List Word) (m0 m2 : Memory)
    (goes : GoesOn (IsCycleKind p.side p.cycle p.taken p.line) t0 t1 w0 w1 m0 m0)
    (taken : GoesOn (IsSourceKind p.taken) t1 t2 w1 w2 m0 m2) (two : Grew t2 t3 w2 w3) (three : Grew t3 t4 w3 w4)
    (four : Grew t4 t5 w4 w5) (five : Grew t5 t6 w5 w6) where
  pub behind_four : Grew t4 t6 w4 w6
  behind_four = grew_then t4 t5 t6 w4 w5 w6 four five

  pub behind_three : Grew t3 t6 w3 w6
  behind_three = grew_then t3 t4 t6 w3 w4 w6 three behind_four

  pub behind_two : Grew t2 t6 w2 w6
  behind_two = grew_then t2 t3 t6 w2 w3 w6 two behind_three

  wider : (kind : WordKind) → IsSourceKind p.taken kind → IsCycleKind p.side p.cycle p.taken p.line kind
  wider kind is = inl is

  -- the run went on
  pub goes_on : GoesOn (IsCycleKind p.side p.cycle p.taken p.line) t0 t6 w0 w6 m0 m2
  goes_on =
      let kinds = IsCycleKind p.side p.cycle p.taken p.line in
      let second = goes_as (IsSourceKind p.taken) kinds t1 t2 w1 w2 m0 m2 wider taken in
      let first = goes_then kinds t0 t1 t2 w0 w1 w2 m0 m0 m2 goes second in
      goes_then kinds t0 t2 t6 w0 w2 w6 m0 m2 m2 first
      (goes_by_growth kinds t2 t6 w2 w6 m2 behind_two.0 behind_two.1 taken.workspace)

  variable_there : (kind : WordKind) (term : ℕ) → term_of w1 kind ≡ Some term → term_of w6 kind ≡ Some term
  variable_there kind term is =
      grew_term t2 t6 w2 w6 kind behind_two ∙ ap (λ (ws : List Word). term_of ws kind) taken.words
      ∙ found_stays w1 taken.more kind term is

  line_there : (term : ℕ) → line_term w1 p ≡ Some term → line_term w6 p ≡ Some term
  line_there term is =
      line_grew w2 w6 p (grew_term t2 t6 w2 w6 (kind_of p.side lists.Line p.cycle) behind_two)
      ∙ ap (λ (ws : List Word). line_term ws p) taken.words ∙ line_found w1 taken.more p term is

  -- from line and noise, D, what F is made of, the bits, the condition and Y, in the order in which they are made
  pub reading_is : (made : Reading) (d bit : ℕ) → line_term w1 p ≡ Some made.sources.line
      → term_of w1 (kind_of p.side Noise p.cycle) ≡ Some made.sources.noise
      → AreParts board t2 p.parts
      → IsFrom board m.word t2 w2 m2 p.side p.parts p.taken m.d.from made.source → IsOfWidth t2 board.width made.source
      → IsMasked t3 board.width m.d.mask made.source d → IsOfWidth t3 board.width d
      → AreOperands board m t4 p.parts p.sp d made.sources
      → AreBits board t6 p.parts p.sp made.sources made.bits
      → IsBitTerm board t6 p.parts p.sp made.sources m.condition bit → IsTurned m.polarity t6 bit made.condition
      → IsOfWidth t6 1 made.condition
      → made.y ≡ y_term (destination_of m.instruction) (slice_index p.parts.regs m.a_address) made.sources.f
      → IsOfWidth t6 board.width made.y
      → IsReading board m t6 w6 m2 p made
  reading_is made d bit line noise parts source source_wide masked d_wide operands bits tested condition
      condition_wide y y_is_wide =
      let are =
      operands_stay board m t4 t6 p.parts p.sp d made.sources behind_four.1.extends behind_four.1.keeps operands in
      record {
        d = d;
        first = are.first;
        second = are.second;
        line = line_there made.sources.line line;
        noise = variable_there (kind_of p.side Noise p.cycle) made.sources.noise noise;
        source = grew_from board m.word t2 t6 w2 w6 m2 p.side p.parts p.taken m made.source behind_two taken.workspace
            (parts.wide Mar tt).there source_wide.there source;
        masked = masked_stays t3 t6 board.width m.d.mask made.source d behind_three.1.extends masked;
        carry = are.carry;
        function = are.function;
        operand_r = are.operand_r;
        operand_s = are.operand_s;
        addend_r = are.addend_r;
        addend_s = are.addend_s;
        f = are.f;
        bits = bits;
        bit = bit;
        tested = tested;
        condition = condition;
        y = y;
        source_wide = wide_later t2 t6 w2 w6 board.width made.source behind_two source_wide;
        d_wide = wide_later t3 t6 w3 w6 board.width d behind_three d_wide;
        first_wide = are.first_wide;
        second_wide = are.second_wide;
        sources = are.sources;
        condition_wide = condition_wide;
        y_wide = y_is_wide;
      }
