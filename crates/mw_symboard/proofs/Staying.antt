-- A symbolic board stays one as a table and its words grow by words that are no variables.
use Rattle.std.proofs.Common.{◌≡◌, ℕ, ◌+◌, ◌<◌, List, [], ◌∷◌, ◌++◌, length, map, refl, ap, sym, subst, ◌∙◌}
use Rattle.std.specs.Option.{option_or}
use Rattle.std.specs.Prelude.{Bool, true, false, Option, Some, None, if◌then◌else◌}
use Rattle.mw_board.specs.declared.parts.BoardParts.{BoardParts}
use Rattle.mw_cycle.specs.declared.elements.Element.TheVariants.{Mar}
use Rattle.mw_cycle.specs.declared.microword.Microword.{Microword}
use Rattle.mw_alu.specs.Instruction.{source_of}
use Rattle.mw_seq.specs.declared.instruction.CounterMove.{CounterMove}
use Rattle.mw_seq.specs.declared.instruction.CounterMove.TheVariants as counters
use Rattle.mw_seq.specs.Instruction.{instruction_of}
use Rattle.mw_term.specs.declared.kinds.WordKind.{WordKind}
use Rattle.mw_term.specs.declared.side.Side.{Side}
use Rattle.mw_cycle.specs.SteadySeries.{Line, Noise, kind_of, width_of}
use Rattle.mw_term.specs.declared.op.Op.TheVariants.{Not}
use Rattle.mw_term.specs.Table.{Table, Extends}
use Rattle.mw_term.specs.declared.event.SymEvent.{SymEvent}
use Rattle.mw_term.specs.declared.word.Word.{Word}
use Rattle.mw_symmem.specs.Memory.{Memory, IsOfWidth}
use Rattle.mw_term.specs.WordList.{plain, term_of}
use Rattle.mw_symmem.specs.Workspace.{IsLater, IsWorkspace}
use Rattle.mw_symmem.proofs.Growth.{width_stays, op_stays}
use Rattle.mw_symmem.proofs.Later.{reads_itself, writes_itself, goes_by_growth}
use Rattle.mw_symmem.proofs.Lists.{plain_behind}
use Rattle.mw_symboard.specs.declared.reading.Reading.{Reading}
use Rattle.mw_symboard.specs.declared.leaving.Leaving.{Leaving}
use Rattle.mw_symboard.specs.Cycle.{IsCounter, IsLeaving, IsReading, IsTurned, effect_by}
use Rattle.mw_symboard.specs.Growth.{Grew}
use Rattle.mw_symboard.specs.Kinds.{HaveWidths}
use Rattle.mw_symboard.specs.Seen.{Progress, line_term, microword_of}
use Rattle.mw_symboard.specs.Turns.{Symbolic, AreEvents, AreNoLater, HasRead, IsSymbolic, Leaves, event_term}
use Rattle.mw_symboard.proofs.Standing.{addend_r_stays, addend_s_stays, bit_term_stays, bits_stay, direct_stays}
use Rattle.mw_symboard.proofs.Standing.{early_bit_stays, f_stays, found_stays, from_stays, less_one_stays, masked_stays}
use Rattle.mw_symboard.proofs.Standing.{next_stays, parts_stay, r_stays, s_stays, sources_stay}

-- there are no later variables still
pub none_stay : (side : Side) (cycle : ℕ) (words : List Word) (made : List ℕ) → AreNoLater side cycle words
    → AreNoLater side cycle (words ++ map plain made)
none_stay side cycle words made none series by n later =
    plain_behind words made (kind_of side series n) ∙ none series by n later

-- variables keep their widths
pub widths_stay : (side : Side) (board : BoardParts) (told tnew : Table) (words : List Word) (made : List ℕ)
    → IsLater told tnew → HaveWidths side board told words → HaveWidths side board tnew (words ++ map plain made)
widths_stay side board told tnew words made later widths series n term is =
    width_stays told tnew (width_of board.width series) term later.extends later.keeps
    (widths series n term (sym (plain_behind words made (kind_of side series n)) ∙ is))

-- so does the line that was there before a cycle
pub line_stays : (told tnew : Table) (line : Option ℕ) → IsLater told tnew
    → ((term : ℕ) → line ≡ Some term → IsOfWidth told 1 term) → (term : ℕ) → line ≡ Some term → IsOfWidth tnew 1 term
line_stays told tnew line later wide term is = width_stays told tnew 1 term later.extends later.keeps (wide term is)

-- the line of a cycle is found still where there are words behind it
found_either : (o : Option ℕ) (words more : List Word) (kind : WordKind) (term : ℕ)
    → option_or o (term_of words kind) ≡ Some term → option_or o (term_of (words ++ more) kind) ≡ Some term
found_either (Some one) words more kind term is = is
found_either None words more kind term is = found_stays words more kind term is

pub line_found : (words more : List Word) (p : Progress) (term : ℕ) → line_term words p ≡ Some term
    → line_term (words ++ more) p ≡ Some term
line_found words more p term is = found_either p.line words more (kind_of p.side Line p.cycle) term is

-- so do events
pub events_stay : (board : BoardParts) (told tnew : Table) (es : List SymEvent) → IsLater told tnew
    → AreEvents board told es → AreEvents board tnew es
events_stay board told tnew es later are k e is =
    width_stays told tnew board.width (event_term e) later.extends later.keeps (are k e is)

turned_stays : (polarity : Bool) (told tnew : Table) (bit term : ℕ) → Extends told tnew
    → IsTurned polarity told bit term → IsTurned polarity tnew bit term
turned_stays true told tnew bit term extends is = op_stays told tnew term (Not bit) extends is
turned_stays false told tnew bit term extends is = is

-- what was read stays so
pub reading_stays : (board : BoardParts) (m : Microword) (told tnew : Table) (words : List Word) (made : List ℕ)
    (memory : Memory) (p : Progress) (r : Reading) → IsWorkspace told words memory → IsLater told tnew
    → p.parts.mar < length told.ops → IsReading board m told words memory p r
    → IsReading board m tnew (words ++ map plain made) memory p r
reading_stays board m told tnew words made memory p r workspace later mar is =
    let ex = later.extends in
    let ke = later.keeps in
    record {
      d = is.d;
      first = is.first;
      second = is.second;
      line = line_found words (map plain made) p r.sources.line is.line;
      noise = found_stays words (map plain made) (kind_of p.side Noise p.cycle) r.sources.noise is.noise;
      source = from_stays board m.word told tnew words (map plain made) memory memory p.side p.parts p.taken m.d.from
          r.source later workspace.memory (reads_itself memory) (writes_itself memory) mar is.source_wide.there is.source;
      masked = masked_stays told tnew board.width m.d.mask r.source is.d ex is.masked;
      carry = early_bit_stays board told tnew p.parts p.sp r.sources.line m.carry_in r.sources.carry ex is.carry;
      function = is.function;
      operand_r = r_stays told tnew board.width (source_of m.instruction) _ is.d is.first ex is.operand_r;
      operand_s = s_stays told tnew board.width (source_of m.instruction) _ _ p.parts.q is.second ex is.operand_s;
      addend_r = addend_r_stays told tnew r.sources.function is.first r.sources.first ex is.addend_r;
      addend_s = addend_s_stays told tnew r.sources.function is.second r.sources.second ex is.addend_s;
      f = f_stays told tnew r.sources.function is.first is.second r.sources.first r.sources.second r.sources.carry
          r.sources.f ex is.f;
      bits = bits_stay board told tnew p.parts p.sp r.sources r.bits ex ke is.bits;
      bit = is.bit;
      tested = bit_term_stays board told tnew p.parts p.sp r.sources m.condition is.bit ex is.tested;
      condition = turned_stays m.polarity told tnew is.bit r.condition ex is.condition;
      y = is.y;
      source_wide = width_stays told tnew board.width r.source ex ke is.source_wide;
      d_wide = width_stays told tnew board.width is.d ex ke is.d_wide;
      first_wide = width_stays told tnew board.width is.first ex ke is.first_wide;
      second_wide = width_stays told tnew board.width is.second ex ke is.second_wide;
      sources = sources_stay board told tnew r.sources ex ke is.sources;
      condition_wide = width_stays told tnew 1 r.condition ex ke is.condition_wide;
      y_wide = width_stays told tnew board.width r.y ex ke is.y_wide;
    }

pub counter_stays : (rld : Bool) (move : CounterMove) (told tnew : Table) (old direct term : ℕ) → Extends told tnew
    → IsCounter rld move told old direct term → IsCounter rld move tnew old direct term
counter_stays true move told tnew old direct term extends is = is
counter_stays false counters.Same told tnew old direct term extends is = is
counter_stays false counters.Loaded told tnew old direct term extends is = is
counter_stays false counters.Counted told tnew old direct term extends is = less_one_stays told tnew old term extends is

-- what is known of the end stays so
pub leaving_stays : (board : BoardParts) (m : Microword) (told tnew : Table) (p : Progress) (noise : ℕ) (l : Leaving)
    → IsLater told tnew → IsLeaving board m told p noise l → IsLeaving board m tnew p noise l
leaving_stays board m told tnew p noise l later is =
    let ex = later.extends in
    let ke = later.keeps in
    record {
      direct = is.direct;
      is_direct = direct_stays (instruction_of m.sequencer) board m told tnew p.parts.ir is.direct ex is.is_direct;
      next = next_stays told tnew p.parts p.sp noise is.direct (effect_by m p.decided).next l.next ex is.next;
      r = counter_stays m.rld (effect_by m p.decided).counter told tnew p.parts.r is.direct l.r ex is.r;
      direct_wide = width_stays told tnew 12 is.direct ex ke is.direct_wide;
      next_wide = width_stays told tnew 12 l.next ex ke is.next_wide;
      r_wide = width_stays told tnew 12 l.r ex ke is.r_wide;
    }

has_read_stays : (board : BoardParts) (store : List ℕ) (told tnew : Table) (words : List Word) (made : List ℕ)
    (m : Memory) (p : Progress) (read : Option Reading)
    → IsWorkspace told words m → IsLater told tnew → p.parts.mar < length told.ops
    → HasRead board store told words m p read → HasRead board store tnew (words ++ map plain made) m p read
has_read_stays board store told tnew words made m p None workspace later mar has =
    (has.0, none_stay p.side p.cycle words made has.1)
has_read_stays board store told tnew words made m p (Some r) workspace later mar has = (
  reading_stays board (microword_of board store p) told tnew words made m p r workspace later mar has.0,
  none_stay p.side (p.cycle + 1) words made has.1,
)

leaves_stays : (board : BoardParts) (store : List ℕ) (told tnew : Table) (p : Progress) (read : Option Reading)
    (leaving : Option Leaving) → IsLater told tnew → Leaves board store told p read leaving
    → Leaves board store tnew p read leaving
leaves_stays board store told tnew p (Some r) (Some l) later leaves =
    (leaving_stays board (microword_of board store p) told tnew p r.sources.noise l later leaves.0, leaves.1)
leaves_stays board store told tnew p None (Some l) later leaves = leaves
leaves_stays board store told tnew p (Some r) None later leaves = leaves
leaves_stays board store told tnew p None None later leaves = leaves

-- a symbolic board stays one
pub symbolic_stays : (board : BoardParts) (store : List ℕ) (told tnew : Table) (old new : List Word) (m : Memory)
    (o : Symbolic) → IsWorkspace told old m → Grew told tnew old new → IsSymbolic board store told old m o
    → IsSymbolic board store tnew new m o
symbolic_stays board store told tnew old new m o workspace grew is =
    let made = grew.0 in
    let goes = goes_by_growth (λ kind. ⊥) told tnew old new m made grew.1 workspace in
    let later = goes.later in
    let mar = (is.parts.wide Mar tt).there in
    subst (λ (ws : List Word). IsSymbolic board store tnew ws m o) (sym grew.1.words)
    (record {
      at = is.at;
      sp = is.sp;
      parts = parts_stay board told tnew o.place.parts later.extends later.keeps is.parts;
      line = line_stays told tnew o.place.line later is.line;
      widths = widths_stay o.place.side board told tnew old made later is.widths;
      events = events_stay board told tnew o.events later is.events;
      reading = has_read_stays board store told tnew old made m o.place o.reading workspace later mar is.reading;
      leaving = leaves_stays board store told tnew o.place o.reading o.leaving later is.leaving;
      few = is.few;
    })

-- a workspace stays one
pub workspace_grown : (told tnew : Table) (old new : List Word) (m : Memory) → IsWorkspace told old m
    → Grew told tnew old new → IsWorkspace tnew new m
workspace_grown told tnew old new m workspace grew =
    (goes_by_growth (λ kind. ⊥) told tnew old new m grew.0 grew.1 workspace).workspace
