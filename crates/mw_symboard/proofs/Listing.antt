-- The words of a cycle, arm by arm.
use Rattle.std.proofs.Common.{◌≡◌, ◌⊎◌, inl, inr, ℕ, suc, ◌+◌, ◌-◌, ◌%◌, ◌^◌, ◌<◌, ◌≤◌, List, [], ◌∷◌, ◌++◌, length}
use Rattle.std.proofs.Common.{drop, get_or, add-one, ap, ap₂, refl, sym, ◌∙◌, arith}
use Rattle.std.proofs.lemmas.Bool as bool
use Rattle.std.proofs.Math.Seq.{drop-cons}
use Rattle.std.proofs.Math.ListN.{drop_of_length-le}
use Rattle.std.specs.Prelude.{map, slice_index, Bool, true, false, Option, None, Result, IfOk}
use Rattle.std.proofs.lemmas.Result.{IfOk-weaker}
use Rattle.mw_alu.specs.declared.instruction.Function.{Function}
use Rattle.mw_alu.specs.declared.instruction.Function.TheVariants as functions
use Rattle.mw_alu.specs.Instruction.{destination_of, function_of}
use Rattle.mw_alu.specs.declared.instruction.Source.{Source}
use Rattle.mw_alu.specs.declared.instruction.Source.TheVariants as operands
use Rattle.mw_board.specs.declared.bit.Bit.{Bit}
use Rattle.mw_base.specs.Words.{num}
use Rattle.mw_board.specs.declared.parts.BoardParts.{BoardParts}
use Rattle.mw_board.specs.Depth.{depth_of}
use Rattle.mw_cycle.specs.declared.microword.Microword.{Microword}
use Rattle.mw_cycle.specs.LeavingWords.{Leaves, Leaving, counter_words, direct_words, leaving_words, next_words}
use Rattle.mw_board.specs.declared.flipflop.FlipFlop.{FlipFlop}
use Rattle.mw_cycle.specs.BoardTerms.{Parts, Standing}
use Rattle.mw_cycle.specs.Boundary.{numbers}
use Rattle.mw_cycle.specs.Cycle.{load_of}
use Rattle.mw_cycle.specs.EdgeWords.{Loaded, Made, Stands, edge_made, edge_words, flips_words, loaded_words}
use Rattle.mw_cycle.specs.EdgeWords.{parts_after, shown, sp_after, taken_after, with_flip, with_write_if}
use Rattle.mw_cycle.specs.ReadingWords.{BitEnded, Bits, BitsMade, HasRead, MadeBit, Operands, Reading, Sources}
use Rattle.mw_cycle.specs.ReadingWords.{SourcesMade, addends_words, all_read_words, bit_ended, bit_words, bits_in_order}
use Rattle.mw_cycle.specs.ReadingWords.{condition_words, early_once, early_words, f_words, kept_or, late_once, line_words}
use Rattle.mw_cycle.specs.ReadingWords.{made_or}
use Rattle.mw_cycle.specs.ReadingWords.{made_term, masked_words, no_bits, operands_words, r_words, read_words}
use Rattle.mw_cycle.specs.ReadingWords.{reading_words, source_words, sources_words, turned_words, with_made, y_term}
use Rattle.mw_board.specs.declared.bit.Bit.TheVariants as bits
use Rattle.mw_symboard.specs.Listed.{ListsBit, standing_after}
use Rattle.mw_symboard.specs.Seen.{Progress}
use Rattle.mw_seq.specs.declared.instruction.Effect.{Effect}
use Rattle.mw_seq.specs.declared.instruction.Instruction.{Instruction}
use Rattle.mw_seq.specs.declared.instruction.Instruction.TheVariants.{Jmap, Cjv}
use Rattle.mw_seq.specs.Instruction.{instruction_of}
use Rattle.mw_cycle.specs.SteadySeries.{Noise, kind_of}
use Rattle.mw_term.specs.declared.op.Op.TheVariants.{Sum}
use Rattle.mw_term.specs.declared.event.SymEvent.{SymEvent}
use Rattle.mw_term.specs.declared.word.Word.{Word}
use Rattle.mw_term.specs.MemoryRead.{Held}
use Rattle.mw_term.specs.Table.{Table}
use Rattle.mw_term.specs.WordList.{WordList, Ended, ended, list_of, with_complement, with_constant, with_variable}
use Rattle.mw_term.specs.WordList.{with_word}
use Rattle.mw_symmem.specs.Listed.{Lists, ListsOver}
use Rattle.mw_symmem.specs.Memory.{Memory}

-- a function of a sum adds what is added for R and S
pub sum_words : (function : Function) (r s first second carry : ℕ) (l : WordList)
    → (function ≡ functions.Add) ⊎ ((function ≡ functions.Subr) ⊎ (function ≡ functions.Subs))
    → with_word (Sum first second carry) l ≡ f_words function r s first second carry l
sum_words function r s first second carry l (inl is) = rw is refl
sum_words function r s first second carry l (inr (inl is)) = rw is refl
sum_words function r s first second carry l (inr (inr is)) = rw is refl

-- a source without R has 0 for it
pub no_r : (width : ℕ) (source : Source) (a d : ℕ) (l : WordList)
    → (source ≡ operands.Zq) ⊎ ((source ≡ operands.Zb) ⊎ (source ≡ operands.Za))
    → with_constant 0 width l ≡ r_words width source a d l
no_r width source a d l (inl is) = rw is refl
no_r width source a d l (inr (inl is)) = rw is refl
no_r width source a d l (inr (inr is)) = rw is refl

-- an instruction that is neither JMAP nor CJV has the branch field at D
pub branch_words : (i : Instruction) (board : BoardParts) (m : Microword) (ir : ℕ) (l : WordList)
    → ¬ (i ≡ Jmap) → ¬ (i ≡ Cjv) → with_constant m.branch 12 l ≡ direct_words i board m ir l
branch_words Jmap board m ir l no_map no_vector = absurd (no_map refl)
branch_words Cjv board m ir l no_map no_vector = absurd (no_vector refl)
branch_words other board m ir l no_map no_vector = refl

-- ---- the same in other words

-- a constant is what is said
pub constant_lists : {E : Type 0} (r : Result ℕ E) (number width : ℕ) (said : WordList → Ended) (told tnew : Table)
    (words : List Word) → ((l : WordList) → with_constant number width l ≡ said l)
    → IfOk r (λ term. (ws : List Word) → Lists (with_constant number width) told tnew ws ws term)
    → IfOk r (Lists said told tnew words words)
constant_lists r number width said told tnew words same lists =
    IfOk-weaker r _ _ (λ term each. λ reads. (each words reads ∙ same (list_of told.ops words reads))) lists

-- the same where the memory may be read
pub constant_over : {E : Type 0} (r : Result ℕ E) (number width : ℕ) (said : WordList → Ended) (told tnew : Table)
    (words : List Word) (m : Memory) → ((l : WordList) → with_constant number width l ≡ said l)
    → IfOk r (λ term. (ws : List Word) → Lists (with_constant number width) told tnew ws ws term)
    → IfOk r (ListsOver said told tnew words words m m)
constant_over r number width said told tnew words m same lists =
    IfOk-weaker r _ _ (λ term each. (each words m.reads ∙ same (list_of told.ops words m.reads))) lists

-- and where the memory may be read
pub said_over : {E : Type 0} (r : Result ℕ E) (first said : WordList → Ended) (told tnew : Table)
    (wold wnew : List Word) (m : Memory)
    → ((l : WordList) → first l ≡ said l) → IfOk r (Lists first told tnew wold wnew)
    → IfOk r (ListsOver said told tnew wold wnew m m)
said_over r first said told tnew wold wnew m same lists =
    IfOk-weaker r _ _ (λ term each. (each m.reads ∙ same (list_of told.ops wold m.reads))) lists

-- ---- bits

-- an early bit that wasn't made is made now
pub early_made : (bit : Bit) (make : WordList → Ended) (made : Bits) (l : WordList) (e : Ended) (early : List MadeBit)
    → None ≡ made_term made.early bit → e ≡ make l → early ≡ with_made made.early bit e.term
    → bit_ended (record { early = early; late = made.late }) e ≡ early_once bit make made l
early_made bit make made l e early none is kept =
    ap (λ (xs : List MadeBit). bit_ended (record { early = xs; late = made.late }) e) kept
    ∙ ap (λ (x : Ended). bit_ended (record { early = with_made made.early bit x.term; late = made.late }) x) is
    ∙ ap (λ (there : Option ℕ). bit_ended
    (record {
      early = kept_or there made.early bit (made_or there make l).term;
      late = made.late;
    }) (made_or there make l)) none

-- a bit of F that wasn't made is made now
pub late_made : (bit : Bit) (make : WordList → Ended) (made : Bits) (l : WordList) (e : Ended) (late : List MadeBit)
    → None ≡ made_term made.late bit → e ≡ make l → late ≡ with_made made.late bit e.term
    → bit_ended (record { early = made.early; late = late }) e ≡ late_once bit make made l
late_made bit make made l e late none is kept =
    ap (λ (xs : List MadeBit). bit_ended (record { early = made.early; late = xs }) e) kept
    ∙ ap (λ (x : Ended). bit_ended (record { early = made.early; late = with_made made.late bit x.term }) x) is
    ∙ ap (λ (there : Option ℕ). bit_ended
    (record {
      early = made.early;
      late = kept_or there made.late bit (made_or there make l).term;
    }) (made_or there make l)) none

-- a bit that is a constant
pub constant_bit : {E : Type 0} (r : Result ℕ E) (number : ℕ) (said : Bits → WordList → BitEnded) (told tnew : Table)
    (words : List Word) (made : Bits) → ((l : WordList) → bit_ended made (with_constant number 1 l) ≡ said made l)
    → IfOk r (λ term. (ws : List Word) → Lists (with_constant number 1) told tnew ws ws term)
    → IfOk r (ListsBit said told tnew words words made made)
constant_bit r number said told tnew words made same lists =
    IfOk-weaker r _ _
    (λ term each. λ reads. (ap (bit_ended made) (each words reads) ∙ same (list_of told.ops words reads))) lists

-- a bit of F is 0 to a carry in
pub no_early_bit : (board : BoardParts) (p : Parts) (sp line : ℕ) (bit : Bit) (made : Bits) (l : WordList)
    → ¬ (bit ≡ bits.One) → ¬ (bit ≡ bits.QLow) → ¬ (bit ≡ bits.QHigh) → ¬ (bit ≡ bits.Line) → ¬ (bit ≡ bits.Full)
    → ((n : ℕ) → ¬ (bit ≡ bits.Ir n)) → ((n : ℕ) → ¬ (bit ≡ bits.Flip n))
    → bit_ended made (with_constant 0 1 l) ≡ early_words board p sp line bit made l
no_early_bit board p sp line bits.One made l no_one no_q_low no_q_high no_line no_full no_ir no_flip =
    absurd (no_one refl)
no_early_bit board p sp line bits.QLow made l no_one no_q_low no_q_high no_line no_full no_ir no_flip =
    absurd (no_q_low refl)
no_early_bit board p sp line bits.QHigh made l no_one no_q_low no_q_high no_line no_full no_ir no_flip =
    absurd (no_q_high refl)
no_early_bit board p sp line bits.Line made l no_one no_q_low no_q_high no_line no_full no_ir no_flip =
    absurd (no_line refl)
no_early_bit board p sp line bits.Full made l no_one no_q_low no_q_high no_line no_full no_ir no_flip =
    absurd (no_full refl)
no_early_bit board p sp line (bits.Ir n) made l no_one no_q_low no_q_high no_line no_full no_ir no_flip =
    absurd (no_ir n refl)
no_early_bit board p sp line (bits.Flip n) made l no_one no_q_low no_q_high no_line no_full no_ir no_flip =
    absurd (no_flip n refl)
no_early_bit board p sp line other made l no_one no_q_low no_q_high no_line no_full no_ir no_flip = refl

-- a bit that is none of F is an early one
pub no_late_bit : (board : BoardParts) (p : Parts) (sp : ℕ) (n : Sources) (bit : Bit) (made : Bits) (l : WordList)
    → ¬ (bit ≡ bits.Carry) → ¬ (bit ≡ bits.Overflow) → ¬ (bit ≡ bits.FZero) → ¬ (bit ≡ bits.Sign) → ¬ (bit ≡ bits.FLow)
    → ¬ (bit ≡ bits.FHigh) → early_words board p sp n.line bit made l ≡ bit_words board p sp n bit made l
no_late_bit board p sp n bits.Carry made l no_carry no_overflow no_zero no_sign no_low no_high = absurd (no_carry refl)
no_late_bit board p sp n bits.Overflow made l no_carry no_overflow no_zero no_sign no_low no_high =
    absurd (no_overflow refl)
no_late_bit board p sp n bits.FZero made l no_carry no_overflow no_zero no_sign no_low no_high = absurd (no_zero refl)
no_late_bit board p sp n bits.Sign made l no_carry no_overflow no_zero no_sign no_low no_high = absurd (no_sign refl)
no_late_bit board p sp n bits.FLow made l no_carry no_overflow no_zero no_sign no_low no_high = absurd (no_low refl)
no_late_bit board p sp n bits.FHigh made l no_carry no_overflow no_zero no_sign no_low no_high = absurd (no_high refl)
no_late_bit board p sp n other made l no_carry no_overflow no_zero no_sign no_low no_high = refl

-- bits in other words
pub said_bit : {E : Type 0} (r : Result ℕ E) (first said : Bits → WordList → BitEnded) (told tnew : Table)
    (wold wnew : List Word) (bold bnew : Bits)
    → ((l : WordList) → first bold l ≡ said bold l) → IfOk r (ListsBit first told tnew wold wnew bold bnew)
    → IfOk r (ListsBit said told tnew wold wnew bold bnew)
said_bit r first said told tnew wold wnew bold bnew same lists =
    IfOk-weaker r _ _ (λ term each. λ reads. (each reads ∙ same (list_of told.ops wold reads))) lists

-- a bit that isn't turned over, and one that is
pub turned_over : (polarity : Bool) (bit : ℕ) (l : WordList) → polarity ≡ true
    → with_complement bit l ≡ turned_words polarity bit l
turned_over true bit l is = refl
turned_over false bit l is = absurd (bool.both_ways false refl is)

-- a word beside the bits that were made
pub beside_bits : {E : Type 0} (r : Result ℕ E) (first : WordList → Ended) (told tnew : Table) (wold wnew : List Word)
    (made : Bits)
    → IfOk r (Lists first told tnew wold wnew)
    → IfOk r (ListsBit (λ b l. bit_ended b (first l)) told tnew wold wnew made made)
beside_bits r first told tnew wold wnew made lists =
    IfOk-weaker r _ _ (λ term each. λ reads. ap (bit_ended made) (each reads)) lists

-- what F is made of, from the words of its parts
pub sources_are : (board : BoardParts) (m : Microword) (p : Parts) (sp line noise d : ℕ) (function : Function)
    (l0 l1 l2 l3 l4 : WordList) (carry r s first second f : ℕ) (none made : Bits) → function ≡ function_of m.instruction
    → none ≡ no_bits → record { list = l1; term = carry; bits = made } ≡ early_words board p sp line m.carry_in none l0
    → operands_words board m p d l1 ≡ record { list = l2; r = r; s = s }
    → addends_words function r s l2 ≡ record { list = l3; r = first; s = second }
    → ended f l4 ≡ f_words function r s first second carry l3
    → sources_words board m p sp line noise d l0
    ≡ record {
      list = l4;
      sources = record {
        line = line;
        noise = noise;
        function = function;
        first = first;
        second = second;
        carry = carry;
        f = f;
      };
      bits = made;
    }
sources_are board m p sp line noise d function l0 l1 l2 l3 l4 carry r s first second f none made same empty one
    two three four =
    let whole : Function → BitEnded → Operands → Operands → Ended → SourcesMade = λ fn c o a x. record {
      list = x.list;
      sources = record {
        line = line;
        noise = noise;
        function = fn;
        first = a.r;
        second = a.s;
        carry = c.term;
        f = x.term;
      };
      bits = c.bits;
    } in
    let by_addends : Function → BitEnded → Operands → Operands → SourcesMade =
    λ fn c o a. whole fn c o a (f_words fn o.r o.s a.r a.s c.term a.list) in
    let by_operands : Function → BitEnded → Operands → SourcesMade =
    λ fn c o. by_addends fn c o (addends_words fn o.r o.s o.list) in
    let by_carry : Function → BitEnded → SourcesMade = λ fn c. by_operands fn c (operands_words board m p d c.list) in
    let there : BitEnded = record { list = l1; term = carry; bits = made } in
    ap (λ fn. by_carry fn (early_words board p sp line m.carry_in no_bits l0)) (sym same)
    ∙ ap (λ b. by_carry function (early_words board p sp line m.carry_in b l0)) (sym empty)
    ∙ ap (by_carry function) (sym one)
    ∙ ap (by_operands function there) two
    ∙ ap (by_addends function there (record { list = l2; r = r; s = s })) three
    ∙ ap (whole function there (record {
      list = l2;
      r = r;
      s = s;
    }) (record { list = l3; r = first; s = second })) (sym four)

-- ---- bits in their order

-- some bits behind others
pub read_behind : (board : BoardParts) (m : Microword) (p : Parts) (sp : ℕ) (n : Sources) (xs ys : List Bit)
    (b : BitsMade)
    → all_read_words board m p sp n (xs ++ ys) b ≡ all_read_words board m p sp n ys (all_read_words board m p sp n xs b)
read_behind board m p sp n [] ys b = refl
read_behind board m p sp n (x ∷ xs) ys b = read_behind board m p sp n xs ys (read_words board m p sp n x b)

-- the next of some bits, where it is read
pub read_on : (board : BoardParts) (m : Microword) (p : Parts) (sp : ℕ) (n : Sources) (xs : List Bit) (i : ℕ)
    (otherwise : Bit) (b after : BitsMade)
    → i < length xs → read_words board m p sp n (get_or xs i otherwise) b ≡ after
    → all_read_words board m p sp n (drop i xs) b ≡ all_read_words board m p sp n (drop (i + 1) xs) after
read_on board m p sp n xs i otherwise b after inside step =
    rw (add-one i)
    (ap (λ ys. all_read_words board m p sp n ys b) (drop-cons xs i otherwise inside)
    ∙ ap (all_read_words board m p sp n (drop (suc i) xs)) step)

-- behind the last there is none
pub read_all : (board : BoardParts) (m : Microword) (p : Parts) (sp : ℕ) (n : Sources) (xs : List Bit) (i : ℕ)
    (b : BitsMade)
    → length xs ≤ i → all_read_words board m p sp n (drop i xs) b ≡ b
read_all board m p sp n xs i b past = ap (λ ys. all_read_words board m p sp n ys b) (drop_of_length-le xs past)

-- numbers that are left, from the next on
numbers_on : (i width : ℕ) → i < width → numbers i (width - i) ≡ i ∷ numbers (i + 1) (width - (i + 1))
numbers_on i width below =
    let left : width - i ≡ suc (width - (i + 1)) = omega (arith, below) in ap (numbers i) left

-- the next bit of the instruction register, where it is read
pub read_ir : (board : BoardParts) (m : Microword) (p : Parts) (sp : ℕ) (n : Sources) (i : ℕ) (b after : BitsMade)
    → i < board.width → read_words board m p sp n (bits.Ir i) b ≡ after
    → all_read_words board m p sp n (map bits.Ir (numbers i (board.width - i))) b
    ≡ all_read_words board m p sp n (map bits.Ir (numbers (i + 1) (board.width - (i + 1)))) after
read_ir board m p sp n i b after below step =
    ap (λ ns. all_read_words board m p sp n (map bits.Ir ns) b) (numbers_on i board.width below)
    ∙ ap (all_read_words board m p sp n (map bits.Ir (numbers (i + 1) (board.width - (i + 1))))) step

-- ---- flip-flops

-- the next flip-flop, whose old value is there
pub flip_on : (board : BoardParts) (m : Microword) (p : Parts) (sp : ℕ) (n : Sources) (fs : List FlipFlop)
    (old : List ℕ) (i : ℕ) (f : FlipFlop) (value : ℕ) (so_far after : Loaded)
    → i < length fs → f ≡ get_or fs i f → i < length old
    → value ≡ slice_index old i
    → with_flip so_far.flips (loaded_words (load_of board m f) board p sp n value (record {
      list = so_far.list;
      bits = so_far.bits;
    })) ≡ after
    → flips_words board m p sp n (drop i fs) (drop i old) so_far
    ≡ flips_words board m p sp n (drop (i + 1) fs) (drop (i + 1) old) after
flip_on board m p sp n fs old i f value so_far after inside is there has step =
    let here : drop i fs ≡ f ∷ drop (suc i) fs = drop-cons fs i f inside ∙ ap (λ x. x ∷ drop (suc i) fs) (sym is) in
    let was : drop i old ≡ value ∷ drop (suc i) old =
    drop-cons old i 0 there ∙ ap (λ x. x ∷ drop (suc i) old) (sym has) in
    rw (add-one i)
    (ap (λ xs. flips_words board m p sp n xs (drop i old) so_far) here
    ∙ ap (λ xs. flips_words board m p sp n (f ∷ drop (suc i) fs) xs so_far) was
    ∙ ap (flips_words board m p sp n (drop (suc i) fs) (drop (suc i) old)) step)

-- behind the last there is none
pub flips_all : (board : BoardParts) (m : Microword) (p : Parts) (sp : ℕ) (n : Sources) (fs : List FlipFlop)
    (old : List ℕ) (i : ℕ) (so_far : Loaded)
    → length fs ≤ i → flips_words board m p sp n (drop i fs) (drop i old) so_far ≡ so_far
flips_all board m p sp n fs old i so_far past =
    ap (λ xs. flips_words board m p sp n xs (drop i old) so_far) (drop_of_length-le fs past)

-- no bit was made where both lists are empty
pub none_made : (b : Bits) → b.early ≡ [] → b.late ≡ [] → b ≡ no_bits
none_made b early late =
    let both : List MadeBit → List MadeBit → Bits = λ x y. record { early = x; late = y } in ap₂ both early late

-- ---- what a cycle reads, and how it goes on

-- what a cycle reads, from the words of its parts
pub reading_are : (board : BoardParts) (m : Microword) (s : Standing) (l0 l1 l2 l3 l4 l5 l6 : WordList)
    (line noise source d y condition : ℕ) (n : Sources) (b4 b5 b6 : Bits)
    → (line_words s.side s.cycle s.line l0).term ≡ line
    → with_variable (kind_of s.side Noise s.cycle) 14 (line_words s.side s.cycle s.line l0).list ≡ ended noise l1
    → ended source l2 ≡ source_words board m.word s.parts s.writes s.taken m.d.from l1
    → ended d l3 ≡ masked_words board.width m.d.mask source l2
    → sources_words board m s.parts s.sp line noise d l3 ≡ record { list = l4; sources = n; bits = b4 }
    → all_read_words board m s.parts s.sp n (bits_in_order board) (record { list = l4; bits = b4 }) ≡ record {
      list = l5;
      bits = b5;
    } → record {
      list = l6;
      term = condition;
      bits = b6;
    } ≡ condition_words board m s.parts s.sp n (record { list = l5; bits = b5 })
    → y ≡ y_term (destination_of m.instruction) (slice_index s.parts.regs m.a_address) n.f
    → reading_words board m s l0
    ≡ record { list = l6; reading = record { sources = n; bits = b6; source = source; y = y; condition = condition } }
unfolding reading_words
reading_are board m s l0 l1 l2 l3 l4 l5 l6 line noise source d y condition n b4 b5 b6 h0 h1 h2 h3 h4 h5 h6 h7 =
    let y_of : Sources → ℕ = λ n. y_term (destination_of m.instruction) (slice_index s.parts.regs m.a_address) n.f in
    let whole : ℕ → Sources → ℕ → BitEnded → HasRead = λ source n y c.
    record {
      list = c.list;
      reading = record { sources = n; bits = c.bits; source = source; y = y; condition = c.term };
    } in
    let by_read : ℕ → Sources → BitsMade → HasRead =
    λ source n b. whole source n (y_of n) (condition_words board m s.parts s.sp n b) in
    let by_sources : ℕ → SourcesMade → HasRead = λ source x. by_read source x.sources
    (all_read_words board m s.parts s.sp x.sources (bits_in_order board) (record { list = x.list; bits = x.bits })) in
    let by_d : ℕ → ℕ → ℕ → Ended → HasRead = λ line noise source x. by_sources source
    (sources_words board m s.parts s.sp line noise x.term x.list) in
    let by_source : ℕ → ℕ → Ended → HasRead =
    λ line noise x. by_d line noise x.term (masked_words board.width m.d.mask x.term x.list) in
    let by_noise : ℕ → Ended → HasRead = λ line x. by_source line x.term
    (source_words board m.word s.parts s.writes s.taken m.d.from x.list) in
    ap (λ term. by_noise term
    (with_variable (kind_of s.side Noise s.cycle) 14 (line_words s.side s.cycle s.line l0).list)) h0
    ∙ ap (by_noise line) h1 ∙ ap (by_source line noise) (sym h2) ∙ ap (by_d line noise source) (sym h3)
    ∙ ap (by_sources source) h4 ∙ ap (by_read source n) h5
    ∙ ap (whole source n (y_of n)) (sym h6)
    ∙ ap (λ z. whole source n z (record { list = l6; term = condition; bits = b6 })) (sym h7)

-- how it goes on, from the words of its parts
pub leaving_are : (board : BoardParts) (m : Microword) (p : Parts) (sp noise : ℕ) (effect : Effect)
    (l0 l1 l2 l3 : WordList) (direct r next : ℕ)
    → ended direct l1 ≡ direct_words (instruction_of m.sequencer) board m p.ir l0
    → ended r l2 ≡ counter_words m.rld effect.counter p.r direct l1
    → ended next l3 ≡ next_words effect.next p sp noise direct l2
    → leaving_words board m p sp noise effect l0 ≡ record { list = l3; leaving = record { next = next; r = r } }
unfolding leaving_words
leaving_are board m p sp noise effect l0 l1 l2 l3 direct r next h1 h2 h3 =
    let whole : Ended → Ended → Leaves = λ c x. record {
      list = x.list;
      leaving = record { next = x.term; r = c.term };
    } in
    let by_counter : ℕ → Ended → Leaves = λ direct c. whole c (next_words effect.next p sp noise direct c.list) in
    let by_direct : Ended → Leaves = λ x. by_counter x.term (counter_words m.rld effect.counter p.r x.term x.list) in
    ap by_direct (sym h1) ∙ ap (by_counter direct) (sym h2) ∙ ap (whole (ended r l2)) (sym h3)

-- ---- the edge

-- the edge, from the words of what the parts take and of PC
pub edge_are : (board : BoardParts) (m : Microword) (s : Standing) (reading : Reading) (leaving : Leaving)
    (effect : Effect) (next : ℕ) (l0 l2 : WordList) (made : Made) (pc : ℕ)
    → edge_made board m s.parts s.sp reading l0 ≡ made
    → ended pc l2 ≡ with_constant ((next + num m.ci) % 2 ^ 12) 12 made.list
    → edge_words board m s reading leaving effect next l0
    ≡ record {
      list = l2;
      standing = record {
        side = s.side;
        at = next;
        sp = sp_after effect.stack (depth_of board) s.sp;
        parts = parts_after board m s.parts s.sp made reading.y pc leaving.r effect.stack;
        writes = with_write_if m.memory_write s.parts.mar reading.y s.writes;
        events = s.events ++ shown m.d.from m.out reading.source reading.y;
        cycle = s.cycle + 1;
        taken = taken_after m.d.from s.taken;
        line = None;
      };
    }
unfolding edge_words
edge_are board m s reading leaving effect next l0 l2 made pc is_made is_pc =
    let whole : Made → Ended → Stands = λ x e. record {
      list = e.list;
      standing = record {
        side = s.side;
        at = next;
        sp = sp_after effect.stack (depth_of board) s.sp;
        parts = parts_after board m s.parts s.sp x reading.y e.term leaving.r effect.stack;
        writes = with_write_if m.memory_write s.parts.mar reading.y s.writes;
        events = s.events ++ shown m.d.from m.out reading.source reading.y;
        cycle = s.cycle + 1;
        taken = taken_after m.d.from s.taken;
        line = None;
      };
    } in
    ap (λ (x : Made). whole x (with_constant ((next + num m.ci) % 2 ^ 12) 12 x.list)) is_made
    ∙ ap (whole made) (sym is_pc)

-- parts that agree term by term are the same
pub parts_are : (p q : Parts) → p.regs ≡ q.regs → p.q ≡ q.q → p.mar ≡ q.mar → p.ir ≡ q.ir → p.flips ≡ q.flips
    → p.pc ≡ q.pc → p.r ≡ q.r → p.stack ≡ q.stack → p ≡ q
parts_are p q regs quotient mar ir flips pc r stack =
    ap (λ (x : List ℕ). (record p { regs = x })) regs
    ∙ ap (λ (x : ℕ). (record p { regs = q.regs; q = x })) quotient
    ∙ ap (λ (x : ℕ). (record p { regs = q.regs; q = q.q; mar = x })) mar
    ∙ ap (λ (x : ℕ). (record p { regs = q.regs; q = q.q; mar = q.mar; ir = x })) ir
    ∙ ap (λ (x : List ℕ). (record p { regs = q.regs; q = q.q; mar = q.mar; ir = q.ir; flips = x })) flips
    ∙ ap (λ (x : ℕ). (record p { regs = q.regs; q = q.q; mar = q.mar; ir = q.ir; flips = q.flips; pc = x })) pc
    ∙ ap (λ (x : ℕ). (record p { regs = q.regs; q = q.q; mar = q.mar; ir = q.ir; flips = q.flips; pc = q.pc; r = x })) r
    ∙ ap (λ (x : List ℕ). (record q { stack = x })) stack

-- the same of where a board is after a cycle
pub standing_is : (m : Microword) (old new : Progress) (reading : Reading) (writes : List Held) (events : List SymEvent)
    (at sp : ℕ) (parts : Parts)
    → new.at ≡ at → new.sp ≡ sp → new.parts ≡ parts
    → record {
      side = old.side;
      at = at;
      sp = sp;
      parts = parts;
      writes = with_write_if m.memory_write old.parts.mar reading.y writes;
      events = events ++ shown m.d.from m.out reading.source reading.y;
      cycle = old.cycle + 1;
      taken = taken_after m.d.from old.taken;
      line = None;
    } ≡ standing_after m old new reading writes events
standing_is m old new reading writes events at sp parts is_at is_sp are =
    let whole : ℕ → ℕ → Parts → Standing = λ a s p. record {
      side = old.side;
      at = a;
      sp = s;
      parts = p;
      writes = with_write_if m.memory_write old.parts.mar reading.y writes;
      events = events ++ shown m.d.from m.out reading.source reading.y;
      cycle = old.cycle + 1;
      taken = taken_after m.d.from old.taken;
      line = None;
    } in
    sym (ap (λ a. whole a new.sp new.parts) is_at ∙ ap (λ s. whole at s new.parts) is_sp ∙ ap (whole at sp) are)

-- a list, and where a board is in it
abbrev pub stands : WordList → Standing → Stands
stands l s = record { list = l; standing = s }
