-- Each term of a list that is no constant has a word, whatever is added.
use Rattle.std.proofs.Common.{◌≡◌, inl, inr, ℕ, suc, ◌+◌, ◌-◌, ◌<◌, List, [], ◌∷◌, ◌++◌, length, length-append, refl}
use Rattle.std.proofs.Common.{ap, arith, sym, ◌∙◌}
use Rattle.std.specs.Prelude.{Bool, true, false, ◌==◌, if◌then◌else◌, unwrap_or, Option, Some, None, IsSome, slice_get}
use Rattle.std.proofs.lemmas.Bool.{false≢true}
use Rattle.std.proofs.lemmas.Bool.Decides.{nat_tests}
use Rattle.mw_term.specs.declared.kinds.WordKind.{WordKind}
use Rattle.mw_term.specs.declared.kinds.WordKind.TheVariants.{Base, Input}
use Rattle.mw_term.specs.declared.op.Op.{Op}
use Rattle.mw_term.specs.declared.op.Op.TheVariants.{Con, Var, Sum, Eq, Ite, Part, Join}
use Rattle.mw_term.specs.declared.word.Word.{Word}
use Rattle.mw_term.specs.MemoryRead.{Held}
use Rattle.mw_term.specs.Numbered.{is_constant, IsNumbered, StaysWithConstants, StaysWithWords, StaysWithVariables}
use Rattle.mw_term.specs.Numbered.{StaysWithReads}
use Rattle.mw_term.specs.WordList.{WordList, ended, list_of, plain, variable, number_from, word_number, term_of}
use Rattle.mw_term.specs.WordList.{with_constant, with_variable, variable_or, with_input, with_word, with_sum}
use Rattle.mw_term.specs.WordList.{with_part, with_zeros_above, with_same, over_reads, over_write, over_writes}
use Rattle.mw_term.specs.WordList.{with_base, memory_read_words}
use Rattle.mw_term.proofs.Pushed.{pushed, number_push}

-- ---- one more

either : (b : Bool) (n : ℕ) (o : Option ℕ) → IsSome o → IsSome (if b then Some n else o)
either true n o some = refl
either false n o some = some

own : (b : Bool) (n : ℕ) (o : Option ℕ) → b ≡ true → IsSome (if b then Some n else o)
own true n o is = refl
own false n o is = absurd (false≢true is)

neither : (b : Bool) (n : ℕ) (o : Option ℕ) → b ≡ false → o ≡ None → (if b then Some n else o) ≡ None
neither true n o is none = absurd (false≢true (sym is))
neither false n o is none = none

alike : (m n : ℕ) → m ≡ n → (m == n) ≡ true
alike m n is = grind (arith, nat_tests)

apart : (m n : ℕ) → n < m → (m == n) ≡ false
apart m n is = grind (arith, nat_tests)

below_apart : (m n : ℕ) → m < n → (m == n) ≡ false
below_apart m n is = grind (arith, nat_tests)

-- a term past those of all words has no number
past_words : (number : ℕ) (words : List Word) (term : ℕ)
    → ((place : ℕ) (w : Word) → slice_get words place ≡ Some w → w.term < term) → number_from number words term ≡ None
past_words number [] term below = refl
past_words number (w ∷ rest) term below =
    neither (w.term == term) number (number_from (number + 1) rest term) (below_apart w.term term (below 0 w refl))
    (past_words (number + 1) rest term (λ place found is. below (suc place) found is))

words_there : (l : WordList) (op : Op) (w : Word) → w.term ≡ length l.ops → IsNumbered l → (place : ℕ) (found : Word)
    → slice_get (l.words ++ w ∷ []) place ≡ Some found → found.term < length (l.ops ++ op ∷ [])
words_there l op w last has place found is = elim (pushed l.words w place found is) [
  | inl h ↦ omega (arith, has.there place found h.1, length-append l.ops (op ∷ []))
  | inr h ↦ let term : found.term ≡ length l.ops = ap (λ (x : Word). x.term) (sym h.1) ∙ last in
      omega (arith, term, length-append l.ops (op ∷ []))
]

numbered_more : (l : WordList) (op : Op) (w : Word) → w.term ≡ length l.ops → is_constant op ≡ false → IsNumbered l
    → IsNumbered (list_of (l.ops ++ op ∷ []) (l.words ++ w ∷ []) l.reads)
numbered_more l op w last other has = record {
  numbered = λ term found is kind.
      (let count = unwrap_or (number_from 1 l.words term) (1 + length l.words) in
      rw (number_push 1 l.words w term) (elim (pushed l.ops op term found is) [
        | inl h ↦ either (w.term == term) count (word_number l.words term) (has.numbered term found h.1 kind)
        | inr h ↦ own (w.term == term) count (word_number l.words term) (alike w.term term (last ∙ sym h.0))
      ]));
  there = words_there l op w last has;
  constants = λ term found is kind.
      (let count = unwrap_or (number_from 1 l.words term) (1 + length l.words) in
      rw (number_push 1 l.words w term) (elim (pushed l.ops op term found is) [
        | inl h ↦ neither (w.term == term) count (word_number l.words term)
            (apart w.term term (omega (arith, last, h.0))) (has.constants term found h.1 kind)
        | inr h ↦ absurd (false≢true (sym other ∙ ap is_constant h.1 ∙ kind))
      ]));
}

pub numbered_constant : StaysWithConstants
numbered_constant number width l has = record {
  numbered = λ term found is kind. elim (pushed l.ops (Con number width) term found is) [
    | inl h ↦ has.numbered term found h.1 kind
    | inr h ↦ absurd (false≢true (sym kind ∙ ap is_constant (sym h.1)))
  ];
  there = λ place w is. omega (arith, has.there place w is, length-append l.ops (Con number width ∷ []));
  constants = λ term found is kind. elim (pushed l.ops (Con number width) term found is) [
    | inl h ↦ has.constants term found h.1 kind
    | inr h ↦ past_words 1 l.words term (λ place w at. rw h.0 (has.there place w at))
  ];
}

pub numbered_word : StaysWithWords
numbered_word op l other has = numbered_more l op (plain (length l.ops)) refl other has

pub numbered_variable : StaysWithVariables
numbered_variable kind width l has =
    numbered_more l (Var (length l.words + 1) width) (variable (length l.ops) kind) refl refl has

-- a list without terms
pub numbered_at_first : IsNumbered (list_of [] [] [])
numbered_at_first = record {
  numbered = λ term op is kind. absurd cc;
  there = λ place w is. absurd cc;
  constants = λ term op is kind. absurd cc;
}

-- ---- forms that many words have

pub numbered_sum : (a b carry : ℕ) (l : WordList) → IsNumbered l → IsNumbered (with_sum a b carry l).list
numbered_sum a b carry l has =
    numbered_word (Sum a b (length l.ops)) (with_constant carry 1 l).list refl (numbered_constant carry 1 l has)

part_or_whole : (all : Bool) (whole low width : ℕ) (l : WordList) → IsNumbered l
    → IsNumbered (if all then ended whole l else with_word (Part whole low width) l).list
part_or_whole true whole low width l has = has
part_or_whole false whole low width l has = numbered_word (Part whole low width) l refl has

pub numbered_part : (whole_width whole low width : ℕ) (l : WordList) → IsNumbered l
    → IsNumbered (with_part whole_width whole low width l).list
numbered_part whole_width whole low width l has = part_or_whole (width == whole_width) whole low width l has

wider_or_same : (same : Bool) (width term : ℕ) (l : WordList) → IsNumbered l
    → IsNumbered (if same then ended term l
    else with_word (Join (with_constant 0 width l).term term) (with_constant 0 width l).list).list
wider_or_same true width term l has = has
wider_or_same false width term l has =
    numbered_word (Join (length l.ops) term) (with_constant 0 width l).list refl (numbered_constant 0 width l has)

pub numbered_zeros_above : (from to term : ℕ) (l : WordList) → IsNumbered l
    → IsNumbered (with_zeros_above from to term l).list
numbered_zeros_above from to term l has = wider_or_same (from == to) (to - from) term l has

there_or_new : (o : Option ℕ) (kind : WordKind) (width : ℕ) (l : WordList) → IsNumbered l
    → IsNumbered (variable_or o kind width l).list
there_or_new (Some term) kind width l has = has
there_or_new None kind width l has = numbered_variable kind width l has

pub numbered_input : (number width : ℕ) (l : WordList) → IsNumbered l → IsNumbered (with_input number width l).list
numbered_input number width l has = there_or_new (term_of l.words (Input number)) (Input number) width l has

-- ---- a memory read

numbered_same : (address : ℕ) (reads : List Held) (l : WordList) → IsNumbered l
    → IsNumbered (with_same address reads l).list
numbered_same address [] l has = has
numbered_same address (read ∷ newer) l has =
    numbered_same address newer (with_word (Eq address read.address) l).list
    (numbered_word (Eq address read.address) l refl has)

numbered_older : (reads : List Held) (same : List ℕ) (base : ℕ) (l : WordList) → IsNumbered l
    → IsNumbered (over_reads reads same base l).list
numbered_older [] same base l has = has
numbered_older (read ∷ newer) [] base l has = has
numbered_older (read ∷ newer) (here ∷ same) base l has =
    let so_far = over_reads newer same base l in
    numbered_word (Ite here read.word so_far.term) so_far.list refl (numbered_older newer same base l has)

numbered_write : (write : Held) (address value : ℕ) (l : WordList) → IsNumbered l
    → IsNumbered (over_write write address value l).list
numbered_write write address value l has =
    let here = with_word (Eq address write.address) l in
    numbered_word (Ite here.term write.word value) here.list refl (numbered_word (Eq address write.address) l refl has)

numbered_writes : (address : ℕ) (writes : List Held) (value : ℕ) (l : WordList) → IsNumbered l
    → IsNumbered (over_writes address writes value l).list
numbered_writes address [] value l has = has
numbered_writes address (write ∷ newer) value l has =
    let next = over_write write address value l in
    numbered_writes address newer next.term next.list (numbered_write write address value l has)

numbered_base : (address base : ℕ) (l : WordList) → IsNumbered l → IsNumbered (with_base address base l)
numbered_base address base l has =
    record { numbered = has.numbered; there = has.there; constants = has.constants }

pub numbered_read : StaysWithReads
unfolding memory_read_words
numbered_read width address writes l has =
    let same = with_same address l.reads l in
    let base = with_variable (Base (length l.reads)) width same.list in
    let older = over_reads l.reads same.terms base.term base.list in
    let written = over_writes address writes older.term older.list in
    numbered_base address base.term written.list
    (numbered_writes address writes older.term older.list
    (numbered_older l.reads same.terms base.term base.list
    (numbered_variable (Base (length l.reads)) width same.list (numbered_same address l.reads l has))))
