-- What a memory read makes of a memory.
use Rattle.std.proofs.Common.{◌≡◌, inl, inr, ℕ, zero, suc, ◌+◌, ◌<◌, ◌^◌, ◌%◌, List, [], ◌∷◌, ◌++◌, length}
use Rattle.std.proofs.Common.{length-append, append_assoc, slice_index, map, refl, ap, arith, sym, subst, ◌∙◌}
use Rattle.std.specs.Prelude.{Some, slice_get}
use Rattle.std.proofs.lemmas.Option.{slice_get_within}
use Rattle.std.proofs.Math.Seq.{take-append_seam}
use Rattle.mw_term.specs.declared.kinds.WordKind.TheVariants.{Base}
use Rattle.mw_term.specs.declared.op.Op.{Op}
use Rattle.mw_term.specs.declared.op.Op.TheVariants.{Var, Ite}
use Rattle.mw_term.specs.Assigned.{Given}
use Rattle.mw_term.specs.MemoryRead.{Held, held}
use Rattle.mw_term.specs.Table.{Table, Extends, IsTable, IsWidth, ArePair, IsBit, widths_of, op_width}
use Rattle.mw_term.specs.Values.{Keeps, IsTermOf, term_value, values_after, op_value}
use Rattle.mw_term.proofs.Tables.{widths_count, words_of}
use Rattle.mw_term.specs.declared.side.Side.{Side}
use Rattle.mw_term.specs.declared.side.Side.TheVariants.{Board, Machine}
use Rattle.mw_term.specs.declared.word.Word.{Word}
use Rattle.mw_term.specs.WordList.{plain, variable}
use Rattle.mw_symmem.specs.Words.{IsVariable, AreOf}
use Rattle.mw_symmem.specs.Memory.{Memory, writes_of, with_read, valued, first_at, IsRead, Has, AddsRead}
use Rattle.mw_symmem.specs.Memory.{IsOfWidth, IsHeld, AreHeld, op_number, variable_number, DependsBefore, IsBaseRead}
use Rattle.mw_symmem.specs.Memory.{IsMemory}
use Rattle.mw_symmem.specs.Steps.{Grows, AreSame, IsBaseValue, IsSideValue, IsMade}
use Rattle.mw_symmem.proofs.Lists.{pushed, behind, pushed_there, among, seam, no_variable, only_variable}
use Rattle.mw_symmem.proofs.Growth.{extends_then, keeps_then, op_stays, has_made, has_stays, width_stays, map_both}
use Rattle.mw_symmem.proofs.Choices.{same_stays, base_stays, bit_of_same}
use Rattle.mw_symmem.proofs.Meaning.{base_meaning, side_meaning}

-- ---- widths

pub pair_of : (t : Table) (w a b : ℕ) → IsOfWidth t w a → IsOfWidth t w b → ArePair (widths_of t.ops) a b
pair_of t w a b first second = (
  omega (arith, first.there, widths_count t.ops),
  omega (arith, second.there, widths_count t.ops),
  first.width_is ∙ sym second.width_is,
)

pub variable_width : (t : Table) (n w v : ℕ) → Has t (Var n w) v → IsOfWidth t w v
unfolding op_width
variable_width t n w v has = record { there = has.is.there; width_is = has.is.width }

choice_width : (t : Table) (w c a b v : ℕ) → IsOfWidth t w b → Has t (Ite c a b) v → IsOfWidth t w v
unfolding op_width
choice_width t w c a b v is has = record {
  there = has.is.there;
  width_is = has.is.width ∙ has.fits.1.2 ∙ is.width_is;
}

pub base_width : (t : Table) (w : ℕ) (reads : List Held) (same : List ℕ) (base : ℕ) (made : List ℕ) (value : ℕ)
    → IsOfWidth t w base → IsBaseValue t reads same base made value → IsOfWidth t w value
base_width t w [] [] base made value begun is = rw is.1 begun
base_width t w [] (s ∷ same) base made value begun is = absurd is
base_width t w (read ∷ newer) [] base made value begun is = absurd is
base_width t w (read ∷ newer) (s ∷ same) base made value begun is =
    choice_width t w s read.word is.1 value (base_width t w newer same base is.0 is.1 begun is.3) is.4

side_width : (t : Table) (w address : ℕ) (writes : List Held) (base : ℕ) (made : List ℕ) (value : ℕ)
    → IsOfWidth t w base → IsSideValue t address writes base made value → IsOfWidth t w value
side_width t w address [] base [] value begun is = rw is begun
side_width t w address [] base (s ∷ made) value begun is = absurd is
side_width t w address (write ∷ newer) base [] value begun is = absurd is
side_width t w address (write ∷ newer) base (s ∷ []) value begun is = absurd is
side_width t w address (write ∷ newer) base (s ∷ next ∷ made) value begun is =
    side_width t w address newer next made value (choice_width t w s write.word base next begun is.1) is.2

pub same_bits : (t : Table) (address : ℕ) (reads : List Held) (same : List ℕ) → AreSame t address reads same → (k : ℕ)
    → k < length same → IsBit (widths_of t.ops) (slice_index same k)
same_bits t address [] [] are k inside = absurd (omega (arith, inside))
same_bits t address [] (s ∷ same) are k inside = absurd are
same_bits t address (read ∷ reads) [] are k inside = absurd are
same_bits t address (read ∷ reads) (s ∷ same) are zero inside = bit_of_same t address read.address s are.0
same_bits t address (read ∷ reads) (s ∷ same) are (suc k) inside =
    same_bits t address reads same are.1 k (omega (arith, inside))

-- ---- the parts together

words_join : (w1 w2 w3 w4 : List Word) (v : Word) (made over : List ℕ) → w2 ≡ w1 ++ v ∷ [] → w3 ≡ w2 ++ map plain made
    → w4 ≡ w3 ++ map plain over → w4 ≡ w1 ++ v ∷ map plain (made ++ over)
words_join w1 w2 w3 w4 v made over second third fourth =
    fourth
    ∙ ap (λ ws. ws ++ map plain over) (third ∙ ap (λ ws. ws ++ map plain made) second
    ∙ append_assoc w1 (v ∷ []) (map plain made))
    ∙ append_assoc w1 (v ∷ map plain made) (map plain over)
    ∙ ap (λ ws. w1 ++ v ∷ ws) (sym (map_both made over))

pub done : (told t1 t2 t3 t4 : Table) (old w1 w2 w3 w4 : List Word) (m : Memory) (side : Side)
    (address base middle value number : ℕ) (same made over : List ℕ)
    → Grows told t1 old w1 same → AreSame t1 address m.reads same
    → w2 ≡ w1 ++ variable base (Base number) ∷ [] → number ≡ length m.reads
    → slice_get t2.ops base ≡ Some (Var (length w1 + 1) m.word) → IsTermOf t1 t2 (Var (length w1 + 1) m.word) base
    → Extends t1 t2 → Keeps t1 t2 → IsTable t2 → (AreOf t1 w1 → AreOf t2 w2) → IsWidth m.word
    → Grows t2 t3 w2 w3 made → IsBaseValue t3 m.reads same base made middle
    → Grows t3 t4 w3 w4 over → IsSideValue t4 address (writes_of m side) middle over value
    → AreOf told old → IsMade told t4 old w4 m side address base value
done told t1 t2 t3 t4 old w1 w2 w3 w4 m side address base middle value number same made over one are new number_is op
    made_op extends keeps table of width two base_is three side_is begun =
    let last_extends = extends_then t2 t3 t4 two.extends three.extends in
    let last_keeps = keeps_then t2 t3 t4 two.extends.more two.keeps three.keeps in
    let late_extends = extends_then t1 t2 t4 extends last_extends in
    let late_keeps = keeps_then t1 t2 t4 extends.more keeps last_keeps in
    let v : Word = variable base (Base (length m.reads)) in
    let named : w2 ≡ w1 ++ v ∷ [] = new ∙ ap (λ n. w1 ++ variable base (Base n) ∷ []) number_is in
    let joined = words_join w1 w2 w3 w4 v made over named two.words three.words in
    let is_op = rw one.words at op in
    let has = rw one.words at (has_made t1 t2 (Var (length w1 + 1) m.word) base extends width made_op op) in
    record {
      same = same;
      made = made;
      middle = middle;
      over = over;
      extends = extends_then told t1 t4 one.extends late_extends;
      keeps = keeps_then told t1 t4 one.extends.more one.keeps late_keeps;
      table = three.table (two.table table);
      of = three.of (two.of (of (one.of begun)));
      words = joined ∙ ap (λ ws. ws ++ v ∷ map plain (made ++ over)) one.words;
      op = op_stays t2 t4 base (Var (length (old ++ map plain same) + 1) m.word) last_extends is_op;
      has = has_stays t2 t4 (Var (length (old ++ map plain same) + 1) m.word) base last_extends last_keeps has;
      are = same_stays t1 t4 address m.reads same late_extends late_keeps are;
      base_is = base_stays t3 t4 m.reads same base made middle three.extends three.keeps base_is;
      side_is = side_is;
    }

-- ---- the values of terms depend on the variables there are

op_agrees : (map : List ℕ) (given other : Given) (ws vs : List ℕ) (op : Op)
    → ((number width : ℕ) → op ≡ Var number width → given number ≡ other number)
    → op_value map given ws vs op ≡ op_value map other ws vs op
unfolding op_value
op_agrees map given other ws vs (Var number width) agree = ap (λ n. n % 2 ^ width) (agree number width refl)
op_agrees map given other ws vs op agree = refl

values_agree : (map : List ℕ) (given other : Given) (ws vs : List ℕ) (ops : List Op)
    → ((term number width : ℕ) → slice_get ops term ≡ Some (Var number width) → given number ≡ other number)
    → values_after map given ws vs ops ≡ values_after map other ws vs ops
values_agree map given other ws vs [] agree = refl
values_agree map given other ws vs (op ∷ rest) agree =
    ap (λ v. values_after map given (ws ++ op_width ws op ∷ []) (vs ++ v ∷ []) rest)
    (op_agrees map given other ws vs op (λ number width is. agree 0 number width (ap (λ o. Some o) is)))
    ∙ values_agree map given other (ws ++ op_width ws op ∷ []) (vs ++ op_value map other ws vs op ∷ []) rest
    (λ term number width is. agree (suc term) number width is)

-- every term of a table depends on the words of its list alone
pub depends_before : (t : Table) (words : List Word) (n term : ℕ) → AreOf t words → length words < n
    → DependsBefore t n term
depends_before t words n term of before given other agree =
    ap (λ vs. slice_index vs term)
    (values_agree t.map given other [] [] t.ops
    (λ a number width is.
    (let listed = of.listed a number width is in
    let inside = slice_get_within words listed.place (variable a listed.kind) listed.is in
    agree number (omega (arith, inside, listed.number, before)))))

-- ---- the memory with one base read more

pub side_held : (t : Table) (words : List Word) (m : Memory) (side : Side) → IsMemory t words m
    → AreHeld t m.address m.word (writes_of m side)
side_held t words m Board memory = memory.board
side_held t words m Machine memory = memory.machine

pub held_stays : (told t : Table) (a w : ℕ) (h : Held) → Extends told t → Keeps told t → IsHeld told a w h
    → IsHeld t a w h
held_stays told t a w h extends keeps is = record {
  address = width_stays told t a h.address extends keeps is.address;
  word = width_stays told t w h.word extends keeps is.word;
}

pub all_stay : (told t : Table) (a w : ℕ) (hs : List Held) → Extends told t → Keeps told t → AreHeld told a w hs
    → AreHeld t a w hs
all_stay told t a w hs extends keeps are k h is = held_stays told t a w h extends keeps (are k h is)

pub base_number : (t : Table) (words : List Word) (w k : ℕ) (read : Held) (is : IsBaseRead t words w k read)
    → variable_number t read.word ≡ is.place + 1
base_number t words w k read is = ap op_number is.op

-- a base read is one still
pub read_stays : (told t : Table) (old more : List Word) (a w k : ℕ) (read : Held) → Extends told t → Keeps told t
    → IsHeld told a w read → IsBaseRead told old w k read → IsBaseRead t (old ++ more) w k read
read_stays told t old more a w k read extends keeps held_is is = record {
  place = is.place;
  is = behind old more is.place (variable read.word (Base k)) is.is;
  op = op_stays told t read.word (Var (is.place + 1) w) extends is.op;
  depends = λ given other agree.
      keeps.values given read.address held_is.address.there
      ∙ is.depends given other agree
      ∙ sym (keeps.values other read.address held_is.address.there);
}

base_kind : (m n : ℕ) → Base m ≡ Base n → m ≡ n
base_kind m n is = cc

module _ (told t : Table) (old new : List Word) (m : Memory) (side : Side) (address base value : ℕ)
    (of : AreOf told old) (memory : IsMemory told old m) (there : IsOfWidth told m.address address)
    (made : IsMade told t old new m side address base value) where
  abbrev front : List Word
  front = old ++ map plain made.same

  abbrev back : List Word
  back = variable base (Base (length m.reads)) ∷ map plain (made.made ++ made.over)

  later : length old < length front + 1
  later = omega (arith, length-append old (map plain made.same))

  all_words : new ≡ old ++ (map plain made.same ++ back)
  all_words = made.words ∙ append_assoc old (map plain made.same) back

  -- the new base read
  new_read : IsBaseRead t new m.word (length m.reads) (held address base)
  new_read = record {
    place = length front;
    is = subst (λ ws. IsVariable ws (length front) base (Base (length m.reads))) (sym made.words)
        (seam front (variable base (Base (length m.reads))) (map plain (made.made ++ made.over)));
    op = made.op;
    depends = λ given other agree.
        made.keeps.values given address there.there
        ∙ depends_before told old (length front + 1) address of later given other agree
        ∙ sym (made.keeps.values other address there.there);
  }

  old_read : (k : ℕ) (read : Held) → slice_get m.reads k ≡ Some read → IsBaseRead t new m.word k read
  old_read k read is =
      subst (λ ws. IsBaseRead t ws m.word k read) (sym all_words)
      (read_stays told t old (map plain made.same ++ back) m.address m.word k read made.extends made.keeps
      (memory.reads k read is) (memory.bases k read is))

  -- its number in the table is its number in the old one, and is a number of the old list
  old_number : (k : ℕ) (read : Held) → slice_get m.reads k ≡ Some read
      → (variable_number t read.word ≡ variable_number told read.word)
      × (variable_number t read.word < length front + 1)
  old_number k read is =
      let before = memory.bases k read is in
      let same : variable_number t read.word ≡ before.place + 1 =
      ap op_number (op_stays told t read.word (Var (before.place + 1) m.word) made.extends before.op) in
      let inside = slice_get_within old before.place (variable read.word (Base k)) before.is in
      (same ∙ sym (base_number told old m.word k read before), omega (arith, same, inside, later))

  new_number : variable_number t base ≡ length front + 1
  new_number = ap op_number made.op

  new_held : IsHeld t m.address m.word (held address base)
  new_held = record {
    address = width_stays told t m.address address made.extends made.keeps there;
    word = variable_width t (length front + 1) m.word base made.has;
  }

  kind_within : (k place a : ℕ) → IsVariable new place a (Base k) → k < length (m.reads ++ held address base ∷ [])
  kind_within k place a is =
      let more : length (m.reads ++ held address base ∷ []) ≡ length m.reads + 1 =
      length-append m.reads (held address base ∷ []) in
      elim (among front back place (variable a (Base k)) (subst (λ ws. IsVariable ws place a (Base k)) made.words is)) [
        | inl h ↦ elim (among old (map plain made.same) place (variable a (Base k)) h) [
          | inl h' ↦ omega (arith, memory.all k place a h', more)
          | inr h' ↦ absurd (no_variable made.same h'.0 a (Base k) h'.1)
        ]
        | inr h ↦ let at : length m.reads ≡ k = base_kind (length m.reads) k
            (only_variable base (Base (length m.reads)) (made.made ++ made.over) h.0 a (Base k) h.1) in
            omega (arith, at, more)
      ]

  pub memory_read : IsMemory t new (with_read m (held address base))
  memory_read = record {
    address = memory.address;
    word = memory.word;
    reads = λ k h is. elim (pushed m.reads (held address base) k h is) [
      | inl p ↦ held_stays told t m.address m.word h made.extends made.keeps (memory.reads k h p.1)
      | inr p ↦ rw (← p.1) new_held
    ];
    board = all_stay told t m.address m.word m.board made.extends made.keeps memory.board;
    machine = all_stay told t m.address m.word m.machine made.extends made.keeps memory.machine;
    bases = λ k h is. elim (pushed m.reads (held address base) k h is) [
      | inl p ↦ old_read k h p.1
      | inr p ↦ rw (p.0, ← p.1) new_read
    ];
    rising = λ i k first last is_first is_last before.
        elim (pushed m.reads (held address base) i first is_first) [
          | inl p ↦ elim (pushed m.reads (held address base) k last is_last) [
            | inl q ↦ omega (
              arith,
              (old_number i first p.1).0,
              (old_number k last q.1).0,
              memory.rising i k first last p.1 q.1 before,
            )
            | inr q ↦ let is : variable_number t last.word ≡ length front + 1 =
                ap (λ (h : Held). variable_number t h.word) (sym q.1) ∙ new_number in
                omega (arith, is, (old_number i first p.1).1)
          ]
          | inr p ↦ elim (pushed m.reads (held address base) k last is_last) [
            | inl q ↦ absurd (omega (arith, p.0, q.0, before))
            | inr q ↦ absurd (omega (arith, p.0, q.0, before))
          ]
        ];
    all = kind_within;
  }

  value_width : IsOfWidth t m.word value
  value_width =
      side_width t m.word address (writes_of m side) made.middle made.over value
      (base_width t m.word m.reads made.same base made.made made.middle new_held.word made.base_is) made.side_is

  pub read_width : IsOfWidth t m.word value
  read_width = value_width

  pub read_adds : AddsRead old new m
  read_adds = record {
    same = made.same;
    base = base;
    rest = made.made ++ made.over;
    words = made.words;
  }

  same_writes : (s : Side) → writes_of (with_read m (held address base)) s ≡ writes_of m s
  same_writes Board = refl
  same_writes Machine = refl

  -- the address of a write is one of the image
  write_inside : (given : Given) (image : List ℕ) → length image ≡ 2 ^ m.address → (k : ℕ) (write : Held)
      → slice_get (writes_of m side) k ≡ Some write → term_value t given write.address < length image
  write_inside given image size k write is =
      let is_held =
      held_stays told t m.address m.word write made.extends made.keeps (side_held told old m side memory k write is) in
      let inside : write.address < length (widths_of t.ops) =
      omega (arith, is_held.address.there, widths_count t.ops) in
      let below = (words_of t given made.table).words write.address inside in
      let width = is_held.address.width_is in
      rw (size, ← width) below

  pub read_means : IsRead t (with_read m (held address base)) side address value
  read_means given image is_image fits =
      let reads = m.reads in
      let last = fits (length reads) (held address base) (pushed_there reads (held address base)) in
      let begun : term_value t given made.middle ≡ slice_index image (term_value t given address) =
      base_meaning t given address reads made.same base made.made made.middle made.are made.base_is
      ∙ ap (λ hs. first_at (map (valued t given) hs) (term_value t given address) (term_value t given base))
      (sym (take-append_seam reads (held address base ∷ [])))
      ∙ last in
      rw (same_writes side)
      (side_meaning t given address (writes_of m side) made.middle made.over value image made.side_is
      (write_inside given image is_image.size) begun)
