-- The words of a case, under way. They are numbered from 1. A constant is no word: it stands among the terms before
-- what it is needed for.
use Rattle.std.specs.Prelude.{ℕ, ◌+◌, ◌-◌, List, [], ◌∷◌, ◌++◌, length, ◌==◌, if◌then◌else◌, Bool, true, false, Option}
use Rattle.std.specs.Prelude.{Some, None}
use Rattle.mw_term.specs.declared.kinds.WordKind.{WordKind}
use Rattle.mw_term.specs.declared.kinds.WordKind.TheVariants.{Element, Line, Noise, BesideLine, BesideNoise, Base}
use Rattle.mw_term.specs.declared.kinds.WordKind.TheVariants.{Input, Probe}
use Rattle.mw_term.specs.declared.op.Op.{Op}
use Rattle.mw_term.specs.declared.op.Op.TheVariants.{Con, Var, Not, Sum, Eq, Ite, Part, Join}
use Rattle.mw_term.specs.declared.word.Word.{Word}
use Rattle.mw_term.specs.MemoryRead.{Held, held}
use Rattle.mw_term.specs.Table.{Table, table_of}

-- a word that is no variable
abbrev pub plain : (term : ℕ) → Word
plain term = record { term = term; kind = None }

-- a variable
abbrev pub variable : (term : ℕ) → WordKind → Word
variable term kind = record { term = term; kind = Some kind }

-- The terms so far by their ops, which are words and the constants that these are over; which of them are the words, in
-- their order; and the base reads of the memory, oldest first.
pub record WordList : Type 0 where
  pub ops : List Op
  pub words : List Word
  pub reads : List Held

-- the list of these
abbrev pub list_of : List Op → List Word → (reads : List Held) → WordList
list_of ops words reads = record { ops = ops; words = words; reads = reads }

-- a list, and the term of it at which something ends
pub record Ended : Type 0 where
  pub list : WordList
  pub term : ℕ

-- what is a term already makes no word
abbrev pub ended : (term : ℕ) → WordList → Ended
ended term l = record { list = l; term = term }

-- ---- what a list answers

-- the number of the first word with a term, where words are numbered from `number` on
abbrev pub number_from : (number : ℕ) → List Word → (term : ℕ) → Option ℕ
number_from number [] term = None
number_from number (w ∷ rest) term = if w.term == term then Some number else number_from (number + 1) rest term

-- the least number of a word with a term
abbrev pub word_number : List Word → (term : ℕ) → Option ℕ
word_number words term = number_from 1 words term

-- two kinds are one
abbrev pub same_kind : (a b : WordKind) → Bool
same_kind (Element m) (Element n) = m == n
same_kind (Line m) (Line n) = m == n
same_kind (Noise m) (Noise n) = m == n
same_kind (BesideLine m) (BesideLine n) = m == n
same_kind (BesideNoise m) (BesideNoise n) = m == n
same_kind (Base m) (Base n) = m == n
same_kind (Input m) (Input n) = m == n
same_kind Probe Probe = true
same_kind a b = false

-- whether a word is a variable of a kind
abbrev pub is_of : Option WordKind → WordKind → Bool
is_of None kind = false
is_of (Some own) kind = same_kind own kind

-- the term of the first variable of a kind
abbrev pub term_of : List Word → WordKind → Option ℕ
term_of [] kind = None
term_of (w ∷ rest) kind = if is_of w.kind kind then Some w.term else term_of rest kind

-- ---- one more

-- a constant
abbrev pub with_constant : (number width : ℕ) → WordList → Ended
with_constant number width l = ended (length l.ops) (list_of (l.ops ++ Con number width ∷ []) l.words l.reads)

-- a word with the value of an op
abbrev pub with_word : Op → WordList → Ended
with_word op l = ended (length l.ops) (list_of (l.ops ++ op ∷ []) (l.words ++ plain (length l.ops) ∷ []) l.reads)

-- a variable of a kind: the word of the next number
abbrev pub with_variable : WordKind → (width : ℕ) → WordList → Ended
with_variable kind width l =
    ended (length l.ops)
    (list_of (l.ops ++ Var (length l.words + 1) width ∷ []) (l.words ++ variable (length l.ops) kind ∷ []) l.reads)

-- a variable that is there, or else a new one
abbrev pub variable_or : Option ℕ → WordKind → (width : ℕ) → WordList → Ended
variable_or (Some term) kind width l = ended term l
variable_or None kind width l = with_variable kind width l

-- the variable of the input of a number, made where it isn't there yet
abbrev pub with_input : (number width : ℕ) → WordList → Ended
with_input number width l = variable_or (term_of l.words (Input number)) (Input number) width l

-- ---- forms that many words have

-- the complement of a term
abbrev pub with_complement : (term : ℕ) → WordList → Ended
with_complement term l = with_word (Not term) l

-- the sum of two terms and a carry in that is a number
abbrev pub with_sum : (a b carry : ℕ) → WordList → Ended
with_sum a b carry l =
    let carry_in = with_constant carry 1 l in
    with_word (Sum a b carry_in.term) carry_in.list

-- so many bits of a term of so many, from one on: all of them are that term itself
abbrev pub with_part : (whole_width whole low width : ℕ) → WordList → Ended
with_part whole_width whole low width l =
    if width == whole_width then ended whole l else with_word (Part whole low width) l

-- a term of so many bits as one of no fewer: as many are that term itself, and more are 0 above it
abbrev pub with_zeros_above : (from to term : ℕ) → WordList → Ended
with_zeros_above from to term l =
    if from == to then ended term l
    else (let zeros = with_constant 0 (to - from) l in with_word (Join zeros.term term) zeros.list)

-- ---- a memory read

-- a list, and the terms of it at which several things end
pub record AllEnded : Type 0 where
  pub list : WordList
  pub terms : List ℕ

-- for each of some base reads, oldest first, whether an address is that read's
abbrev pub with_same : (address : ℕ) → (reads : List Held) → WordList → AllEnded
with_same address [] l = record { list = l; terms = [] }
with_same address (read ∷ newer) l =
    let first = with_word (Eq address read.address) l in
    let others = with_same address newer first.list in
    record { list = others.list; terms = first.term ∷ others.terms }

-- From the newest of some base reads to the oldest: where the address is that read's, its variable, and else the value
-- so far, which begins as a variable of its own.
abbrev pub over_reads : (reads : List Held) → (same : List ℕ) → (base : ℕ) → WordList → Ended
over_reads [] same base l = ended base l
over_reads (read ∷ newer) [] base l = ended base l
over_reads (read ∷ newer) (here ∷ same) base l =
    let so_far = over_reads newer same base l in
    with_word (Ite here read.word so_far.term) so_far.list

-- whether an address is a write's, and then, where it is, the written value, and else a value
abbrev pub over_write : (write : Held) → (address value : ℕ) → WordList → Ended
over_write write address value l =
    let here = with_word (Eq address write.address) l in
    with_word (Ite here.term write.word value) here.list

-- the same for each of some writes, from the oldest to the newest, with the value so far
abbrev pub over_writes : (address : ℕ) → (writes : List Held) → (value : ℕ) → WordList → Ended
over_writes address [] value l = ended value l
over_writes address (write ∷ newer) value l =
    let next = over_write write address value l in
    over_writes address newer next.term next.list

-- a list with one base read more
abbrev pub with_base : (address base : ℕ) → WordList → WordList
with_base address base l = list_of l.ops l.words (l.reads ++ held address base ∷ [])

-- what ends in a list, in that list with one base read more
abbrev pub kept_read : (address base : ℕ) → Ended → Ended
kept_read address base e = ended e.term (with_base address base e.list)

-- The words of a memory read at an address, over a side's writes, oldest first: for each earlier base read whether the
-- address is that read's, the variable of this one, what the earlier ones make of it, and what the writes make of that.
unfoldable pub memory_read_words : (width address : ℕ) → (writes : List Held) → WordList → Ended
memory_read_words width address writes l =
    let same = with_same address l.reads l in
    let base = with_variable (Base (length l.reads)) width same.list in
    let older = over_reads l.reads same.terms base.term base.list in
    kept_read address base.term (over_writes address writes older.term older.list)

-- ---- numbers

-- the table of a list, with a board's map
abbrev pub table_in : (map : List ℕ) → WordList → Table
table_in map l = table_of l.ops map
