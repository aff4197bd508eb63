-- A symbolic board as bits are decided.
use Rattle.std.proofs.Common.{◌≡◌, ℕ, ◌+◌, ◌-◌, ◌<◌, ◌≤◌, List, [], ◌∷◌, ◌++◌, length, refl, ap, ap₂, arith, sym, subst}
use Rattle.std.proofs.Common.{◌∙◌}
use Rattle.std.specs.Prelude.{Bool, true, false, ◌&&◌, ◌==◌, Option, Some, None}
use Rattle.std.proofs.lemmas.Bool.Decides.{nat_tests}
use Rattle.mw_base.specs.Words.{num}
use Rattle.mw_board.specs.Valid.{IsBoard}
use Rattle.mw_cycle.specs.Microword.{IsMicroword}
use Rattle.mw_term.specs.declared.decided.DecidedKind.TheVariants.{Pass, CounterZero, Next}
use Rattle.mw_term.specs.declared.op.Op.TheVariants.{Con, Eq, Part}
use Rattle.mw_board.specs.declared.parts.BoardParts.{BoardParts}
use Rattle.mw_term.specs.declared.decided.Decided.{Decided}
use Rattle.mw_cycle.specs.declared.microword.Microword.{Microword}
use Rattle.mw_cycle.specs.Decided.{decided, decides_pass, decides_counter}
use Rattle.mw_seq.specs.declared.instruction.Effect.{Effect}
use Rattle.mw_seq.specs.Instruction.{instruction_of, effect_of}
use Rattle.mw_term.specs.declared.decided.DecidedKind.{DecidedKind}
use Rattle.mw_term.specs.Table.{Table, IsTable}
use Rattle.mw_term.specs.declared.word.Word.{Word}
use Rattle.mw_symmem.specs.Memory.{Memory, IsOfWidth}
use Rattle.mw_symboard.specs.declared.reading.Reading.{Reading}
use Rattle.mw_symboard.specs.declared.leaving.Leaving.{Leaving}
use Rattle.mw_symboard.specs.Cycle.{IsReading, IsLeaving, IsCounter, bits_before, effect_by}
use Rattle.mw_symboard.specs.Kinds.{HaveWidths}
use Rattle.mw_symboard.specs.Made.{Is, IsNext}
use Rattle.mw_symboard.specs.Parts.{AreParts}
use Rattle.mw_symboard.specs.Seen.{Progress, microword_of}
use Rattle.mw_symboard.specs.Turns.{Symbolic, AreEvents, AreNoLater, Asks, HasRead, IsSymbolic, Leaves, decided_so}
use Rattle.mw_symboard.proofs.SaysLeaving.{asks_counter, asks_next, asks_pass, says_leaving}
use Rattle.mw_symboard.proofs.SaysReading.{says_reading}
use Rattle.mw_symboard.proofs.Deciding.{count_more, pass_same, zero_same}

-- a place with one decided bit more
abbrev pub further : Progress → Decided → Progress
further p bit = record p { decided = p.decided ++ bit ∷ [] }

-- the table's entry is the same with one bit more
pub effect_same : (m : Microword) (ds : List Decided) (bit : Decided) → bits_before m ≤ length ds
    → effect_by m (ds ++ bit ∷ []) ≡ effect_by m ds
effect_same m ds bit within =
    ap₂ (λ (pass empty : Bool). effect_of (instruction_of m.sequencer) pass empty)
    (pass_same (decides_pass m) ds bit (omega (arith, within)))
    (zero_same (decides_pass m) (decides_counter m) ds bit within)

none_some : {A : Type 0} {x : A} → None ≡ Some x → ⊥
none_some is = absurd cc

read_so : (board : BoardParts) (store : List ℕ) (t : Table) (words : List Word) (m : Memory) (p : Progress)
    (bit : Decided) (read : Option Reading) (reading : Reading)
    → read ≡ Some reading → HasRead board store t words m p read
    → HasRead board store t words m (further p bit) read
read_so board store t words m p bit None reading is has = absurd (none_some is)
read_so board store t words m p bit (Some r) reading is has = (
  record {
    d = has.0.d;
    first = has.0.first;
    second = has.0.second;
    line = has.0.line;
    noise = has.0.noise;
    source = has.0.source;
    masked = has.0.masked;
    carry = has.0.carry;
    function = has.0.function;
    operand_r = has.0.operand_r;
    operand_s = has.0.operand_s;
    addend_r = has.0.addend_r;
    addend_s = has.0.addend_s;
    f = has.0.f;
    bits = has.0.bits;
    bit = has.0.bit;
    tested = has.0.tested;
    condition = has.0.condition;
    y = has.0.y;
    source_wide = has.0.source_wide;
    d_wide = has.0.d_wide;
    first_wide = has.0.first_wide;
    second_wide = has.0.second_wide;
    sources = has.0.sources;
    condition_wide = has.0.condition_wide;
    y_wide = has.0.y_wide;
  },
  has.1,
)

leaves_so : (board : BoardParts) (store : List ℕ) (t : Table) (p : Progress) (bit : Decided) (read : Option Reading)
    (leaving : Option Leaving) → (leaving ≡ None → length p.decided < bits_before (microword_of board store p))
    → Leaves board store t p read leaving → Leaves board store t (further p bit) read leaving
leaves_so board store t p bit (Some r) (Some l) tests leaves =
    let same = effect_same (microword_of board store p) p.decided bit leaves.1 in
    let count = count_more p.decided bit in (
      record {
        direct = leaves.0.direct;
        is_direct = leaves.0.is_direct;
        next = subst (λ (e : Effect). IsNext t p.parts p.sp r.sources.noise leaves.0.direct e.next l.next)
            (sym same) leaves.0.next;
        r = subst (λ (e : Effect). IsCounter (microword_of board store p).rld e.counter t p.parts.r leaves.0.direct l.r)
            (sym same) leaves.0.r;
        direct_wide = leaves.0.direct_wide;
        next_wide = leaves.0.next_wide;
        r_wide = leaves.0.r_wide;
      },
      omega (arith, count, leaves.1),
    )
leaves_so board store t p bit None (Some l) tests leaves = leaves
leaves_so board store t p bit (Some r) None tests leaves =
    let count = count_more p.decided bit in
    let some = tests refl in
    omega (arith, count, some)
leaves_so board store t p bit None None tests leaves =
    let count = count_more p.decided bit in
    let some = tests refl in
    omega (arith, count, some)

-- a symbolic board with the bit decided that it waits for is one still
pub decide_keeps : (board : BoardParts) (store : List ℕ) (t : Table) (words : List Word) (m : Memory) (o : Symbolic)
    (asked kind : DecidedKind) (term : ℕ) (value : Bool) → Asks board store t words m o asked term
    → IsSymbolic board store t words m o → IsSymbolic board store t words m (decided_so o kind value)
decide_keeps board store t words m o asked kind term value asks symbolic =
    let count = count_more o.place.decided (decided kind value) in
    record {
      at = symbolic.at;
      sp = symbolic.sp;
      parts = symbolic.parts;
      line = symbolic.line;
      widths = symbolic.widths;
      events = symbolic.events;
      reading = read_so board store t words m o.place
          (decided kind value) o.reading asks.begun.0 asks.begun.1 symbolic.reading;
      leaving = leaves_so board store t o.place (decided kind value) o.reading o.leaving asks.tests symbolic.leaving;
      few = omega (arith, count, asks.few);
    }

-- ---- what is there once a cycle has begun

-- what it has read
pub read_known : (board : BoardParts) (store : List ℕ) (t : Table) (words : List Word) (m : Memory) (p : Progress)
    (read : Option Reading) (r : Reading) → read ≡ Some r → HasRead board store t words m p read
    → IsReading board (microword_of board store p) t words m p r × AreNoLater p.side (p.cycle + 1) words
read_known board store t words m p read r is has =
    subst (λ (x : Option Reading). HasRead board store t words m p x) is has

-- what it knows of its end
pub leaving_known : (board : BoardParts) (store : List ℕ) (t : Table) (p : Progress) (read : Option Reading)
    (leaving : Option Leaving) (r : Reading) (l : Leaving) → read ≡ Some r → leaving ≡ Some l
    → Leaves board store t p read leaving
    → IsLeaving board (microword_of board store p) t p r.sources.noise l
    × (bits_before (microword_of board store p) ≤ length p.decided)
leaving_known board store t p read leaving r l is_read is_left leaves =
    subst (λ (x : Option Reading). Leaves board store t p x (Some l)) is_read
    (subst (λ (x : Option Leaving). Leaves board store t p read x) is_left leaves)

-- it with a bit that it waits for
abbrev pub asking : Symbolic → DecidedKind → Symbolic
asking o kind = record o { asked = Some kind }

-- it is symbolic still
pub asking_keeps : (board : BoardParts) (store : List ℕ) (t : Table) (words : List Word) (m : Memory) (o : Symbolic)
    (kind : DecidedKind) → IsSymbolic board store t words m o → IsSymbolic board store t words m (asking o kind)
asking_keeps board store t words m o kind is = record {
  at = is.at;
  sp = is.sp;
  parts = is.parts;
  line = is.line;
  widths = is.widths;
  events = is.events;
  reading = is.reading;
  leaving = is.leaving;
  few = is.few;
}

some_none : {A : Type 0} {x : A} → Some x ≡ None → ⊥
some_none is = absurd cc

-- it asks for a bit of the next address
pub next_asked : (board : BoardParts) (store : List ℕ) (t : Table) (words : List Word) (m : Memory) (o : Symbolic)
    (r : Reading) (l : Leaving) (place bit : ℕ) → IsTable t → IsBoard board
    → IsMicroword board (microword_of board store o.place) → t.map ≡ board.map_entries
    → IsSymbolic board store t words m o → o.reading ≡ Some r → o.leaving ≡ Some l
    → length o.place.decided < bits_before (microword_of board store o.place) + 12
    → place ≡ bits_before (microword_of board store o.place) + 11 - length o.place.decided
    → Is t (Part l.next place 1) bit → IsOfWidth t 1 bit
    → Asks board store t words m (asking o (Next place)) (Next place) bit
next_asked board store t words m o r l place bit table good micro map is is_read is_left few at made wide =
    let read = (read_known board store t words m o.place o.reading r is_read is.reading).0 in
    let left = leaving_known board store t o.place o.reading o.leaving r l is_read is_left is.leaving in
    let says = says_reading r table good is.parts micro read in
    record {
      asked = refl;
      begun = (r, is_read);
      tests = λ none. absurd (some_none (sym is_left ∙ none));
      wide = wide;
      next = asks_next l place bit table
          (says_leaving l r.sources.noise table good is.parts micro map is.sp left.1 says.sources.noise left.0)
          left.1 few at made;
      few = few;
    }

-- it asks for pass
pub pass_asked : (board : BoardParts) (store : List ℕ) (t : Table) (words : List Word) (m : Memory) (o : Symbolic)
    (r : Reading) → IsTable t → IsBoard board → IsMicroword board (microword_of board store o.place)
    → IsSymbolic board store t words m o → o.reading ≡ Some r
    → length o.place.decided < bits_before (microword_of board store o.place)
    → decides_pass (microword_of board store o.place) ≡ true → length o.place.decided ≡ 0
    → Asks board store t words m (asking o Pass) Pass r.condition
pass_asked board store t words m o r table good micro is is_read few tested none =
    let read = (read_known board store t words m o.place o.reading r is_read is.reading).0 in
    let says = says_reading r table good is.parts micro read in
    record {
      asked = refl;
      begun = (r, is_read);
      tests = λ missing. few;
      wide = read.condition_wide;
      next = asks_pass r says tested none;
      few = omega (arith, few);
    }

-- it asks whether the counter is zero
pub counter_asked : (board : BoardParts) (store : List ℕ) (t : Table) (words : List Word) (m : Memory) (o : Symbolic)
    (r : Reading) (nothing bit : ℕ) → IsTable t → IsSymbolic board store t words m o → o.reading ≡ Some r
    → length o.place.decided < bits_before (microword_of board store o.place)
    → decides_counter (microword_of board store o.place) ≡ true
    → length o.place.decided ≡ num (decides_pass (microword_of board store o.place))
    → Is t (Con 0 12) nothing → Is t (Eq o.place.parts.r nothing) bit → IsOfWidth t 1 bit
    → Asks board store t words m (asking o CounterZero) CounterZero bit
counter_asked board store t words m o r nothing bit table is is_read few counted known none made wide = record {
  asked = refl;
  begun = (r, is_read);
  tests = λ missing. few;
  wide = wide;
  next = asks_counter nothing bit table is.parts none made counted known;
  few = omega (arith, few);
}

-- which test is asked for: where pass isn't decided, or is known, the counter
pub counter_left : (tested counted : Bool) (known : ℕ)
    → known < num tested + num counted → (tested && (known == 0)) ≡ false → (counted ≡ true) × (known ≡ num tested)
counter_left true true known few none = (refl, grind (arith, nat_tests))
counter_left true false known few none = absurd (grind (arith, nat_tests))
counter_left false true known few none = (refl, omega (arith, few))
counter_left false false known few none = absurd (omega (arith, few))

-- it with what is known of its end
pub leaving_keeps : (board : BoardParts) (store : List ℕ) (t : Table) (words : List Word) (m : Memory) (o : Symbolic)
    (r : Reading) (l : Leaving)
    → o.reading ≡ Some r → bits_before (microword_of board store o.place) ≤ length o.place.decided
    → IsLeaving board (microword_of board store o.place) t o.place r.sources.noise l
    → IsSymbolic board store t words m o → IsSymbolic board store t words m (record o { leaving = Some l })
leaving_keeps board store t words m o r l is_read known left is = record {
  at = is.at;
  sp = is.sp;
  parts = is.parts;
  line = is.line;
  widths = is.widths;
  events = is.events;
  reading = is.reading;
  leaving = subst (λ (x : Option Reading). Leaves board store t o.place x (Some l)) (sym is_read) (left, known);
  few = is.few;
}

-- it with what its cycle has read, over a later table
pub reading_keeps : (board : BoardParts) (store : List ℕ) (told tnew : Table) (wold wnew : List Word)
    (mold mnew : Memory) (o : Symbolic) (r : Reading)
    → o.reading ≡ None → IsSymbolic board store told wold mold o → AreParts board tnew o.place.parts
    → AreEvents board tnew o.events → ((term : ℕ) → o.place.line ≡ Some term → IsOfWidth tnew 1 term)
    → HaveWidths o.place.side board tnew wnew
    → IsReading board (microword_of board store o.place) tnew wnew mnew o.place r
    → AreNoLater o.place.side (o.place.cycle + 1) wnew
    → IsSymbolic board store tnew wnew mnew (record o { reading = Some r })
reading_keeps board store told tnew wold wnew mold mnew o r none is parts events line widths read later =
    let has : HasRead board store told wold mold o.place None =
    subst (λ (x : Option Reading). HasRead board store told wold mold o.place x) none is.reading in
    let leaves : Leaves board store told o.place None o.leaving =
    subst (λ (x : Option Reading). Leaves board store told o.place x o.leaving) none is.leaving in
    let count : length o.place.decided ≡ 0 = ap length has.0 in
    record {
      at = is.at;
      sp = is.sp;
      parts = parts;
      line = line;
      widths = widths;
      events = events;
      reading = (read, later);
      leaving = none_left board store told tnew o.place o.leaving r leaves (omega (arith, count));
      few = is.few;
    }
  where
    none_left : (board : BoardParts) (store : List ℕ) (told tnew : Table) (p : Progress) (leaving : Option Leaving)
        (r : Reading)
        → Leaves board store told p None leaving → length p.decided ≤ bits_before (microword_of board store p)
        → Leaves board store tnew p (Some r) leaving
    none_left board store told tnew p None r leaves few = few
    none_left board store told tnew p (Some l) r leaves few = absurd leaves
