-- What is compared goes on: the comparisons so far stay the first ones, and the list so far stays the beginning.
use Rattle.std.proofs.Common.{◌≡◌, ℕ, ◌+◌, List, [], ◌∷◌, ◌++◌, length, append-nil, append_assoc, ap, sym, ◌∙◌}
use Rattle.std.proofs.Common.{refl}
use Rattle.mw_expr.specs.declared.shape.Shape.{Shape}
use Rattle.mw_rel.specs.ComparisonWords.{Compared, Comparison, Sides, Subject, compared_in, event}
use Rattle.mw_rel.specs.ComparisonWords.{with_comparison, with_events, with_memory}
use Rattle.mw_term.specs.declared.event.SymEvent.{SymEvent}
use Rattle.mw_term.specs.declared.event.SymEvent.TheVariants.{Out, Taken}
use Rattle.mw_term.specs.declared.kinds.WordKind.{WordKind}
use Rattle.mw_term.specs.declared.kinds.WordKind.TheVariants.{Base, Probe}
use Rattle.mw_term.specs.declared.op.Op.{Op}
use Rattle.mw_term.specs.declared.op.Op.TheVariants.{Con, Eq, Ite, Var}
use Rattle.mw_term.specs.declared.word.Word.{Word}
use Rattle.mw_term.specs.MemoryRead.{Held}
use Rattle.mw_term.specs.WordList.{WordList, memory_read_words, over_reads, over_write, over_writes, plain, variable}
use Rattle.mw_term.specs.WordList.{with_constant, with_same, with_variable, with_word}
use Rattle.mw_compare.specs.Comparing.{IsFrontOf}
pub use Rattle.mw_decide.proofs.OverWords.{front_itself}

-- ---- lists

-- and further
pub front_then : (a b c : WordList) → IsFrontOf a b → IsFrontOf b c → IsFrontOf a c
front_then a b c first second = record {
  ops = first.ops ++ second.ops;
  words = first.words ++ second.words;
  ops_are = second.ops_are ∙ ap (λ (xs : List Op). xs ++ second.ops) first.ops_are
      ∙ append_assoc a.ops first.ops second.ops;
  words_are = second.words_are ∙ ap (λ (xs : List Word). xs ++ second.words) first.words_are
      ∙ append_assoc a.words first.words second.words;
}

-- ---- one more

pub front_constant : (number width : ℕ) (l : WordList) → IsFrontOf l (with_constant number width l).list
front_constant number width l = record {
  ops = Con number width ∷ [];
  words = [];
  ops_are = refl;
  words_are = sym (append-nil l.words);
}

pub front_word : (op : Op) (l : WordList) → IsFrontOf l (with_word op l).list
front_word op l = record { ops = op ∷ []; words = plain (length l.ops) ∷ []; ops_are = refl; words_are = refl }

pub front_variable : (kind : WordKind) (width : ℕ) (l : WordList) → IsFrontOf l (with_variable kind width l).list
front_variable kind width l = record {
  ops = Var (length l.words + 1) width ∷ [];
  words = variable (length l.ops) kind ∷ [];
  ops_are = refl;
  words_are = refl;
}

-- ---- a memory read

front_same : (address : ℕ) (reads : List Held) (l : WordList) → IsFrontOf l (with_same address reads l).list
front_same address [] l = front_itself l
front_same address (read ∷ newer) l =
    let first = with_word (Eq address read.address) l in
    front_then l first.list (with_same address newer first.list).list (front_word (Eq address read.address) l)
    (front_same address newer first.list)

front_older : (reads : List Held) (same : List ℕ) (base : ℕ) (l : WordList)
    → IsFrontOf l (over_reads reads same base l).list
front_older [] same base l = front_itself l
front_older (read ∷ newer) [] base l = front_itself l
front_older (read ∷ newer) (here ∷ same) base l =
    let so_far = over_reads newer same base l in
    front_then l so_far.list _ (front_older newer same base l) (front_word (Ite here read.word so_far.term) so_far.list)

front_write : (write : Held) (address value : ℕ) (l : WordList) → IsFrontOf l (over_write write address value l).list
front_write write address value l =
    let here = with_word (Eq address write.address) l in
    front_then l here.list _ (front_word (Eq address write.address) l)
    (front_word (Ite here.term write.word value) here.list)

front_writes : (address : ℕ) (writes : List Held) (value : ℕ) (l : WordList)
    → IsFrontOf l (over_writes address writes value l).list
front_writes address [] value l = front_itself l
front_writes address (write ∷ newer) value l =
    let next = over_write write address value l in
    front_then l next.list _ (front_write write address value l) (front_writes address newer next.term next.list)

pub front_read : (width address : ℕ) (writes : List Held) (l : WordList)
    → IsFrontOf l (memory_read_words width address writes l).list
unfolding memory_read_words
front_read width address writes l =
    let same = with_same address l.reads l in
    let base = with_variable (Base (length l.reads)) width same.list in
    let older = over_reads l.reads same.terms base.term base.list in
    let all = over_writes address writes older.term older.list in
    let front = front_then l same.list all.list (front_same address l.reads l)
    (front_then same.list base.list all.list (front_variable (Base (length l.reads)) width same.list)
    (front_then base.list older.list all.list (front_older l.reads same.terms base.term base.list)
    (front_writes address writes older.term older.list))) in
    record { ops = front.ops; words = front.words; ops_are = front.ops_are; words_are = front.words_are }

-- ---- comparisons

-- comparisons go on: those so far are the first, and their list is the beginning
pub record GoesOnAs (so_far all : Compared) : Type 0 where
  pub more : List Comparison
  pub comparisons_are : all.comparisons ≡ so_far.comparisons ++ more
  pub front : IsFrontOf so_far.list all.list

pub goes_itself : (c : Compared) → GoesOnAs c c
goes_itself c = record { more = []; comparisons_are = sym (append-nil c.comparisons); front = front_itself c.list }

pub goes_then : (a b c : Compared) → GoesOnAs a b → GoesOnAs b c → GoesOnAs a c
goes_then a b c first second = record {
  more = first.more ++ second.more;
  comparisons_are = second.comparisons_are ∙ ap (λ (xs : List Comparison). xs ++ second.more) first.comparisons_are
      ∙ append_assoc a.comparisons first.more second.more;
  front = front_then a.list b.list c.list first.front second.front;
}

-- the same comparisons, over a list that goes on
pub goes_listed : (so_far : Compared) (l : WordList) → IsFrontOf so_far.list l
    → GoesOnAs so_far (compared_in l so_far.comparisons)
goes_listed so_far l front = record {
  more = [];
  comparisons_are = sym (append-nil so_far.comparisons);
  front = front;
}

pub comparison_goes_on : (subject : Subject) (a b : ℕ) (so_far : Compared)
    → GoesOnAs so_far (with_comparison subject a b so_far)
comparison_goes_on subject a b so_far =
    let same = with_word (Eq a b) so_far.list in
    record {
      more = record { subject = subject; term = same.term; list = same.list } ∷ [];
      comparisons_are = refl;
      front = front_word (Eq a b) so_far.list;
    }

pub events_go_on : (number : ℕ) (board machine : List SymEvent) (so_far : Compared)
    → GoesOnAs so_far (with_events number board machine so_far)
events_go_on number (Out a ∷ board) (Out b ∷ machine) so_far =
    let next = with_comparison (event number) a b so_far in
    goes_then so_far next _ (comparison_goes_on (event number) a b so_far)
    (events_go_on (number + 1) board machine next)
events_go_on number (Taken a ∷ board) (Taken b ∷ machine) so_far = events_go_on (number + 1) board machine so_far
events_go_on number board machine so_far = goes_itself so_far

pub memory_goes_on : (s : Shape) (sides : Sides) (so_far : Compared) → GoesOnAs so_far (with_memory s sides so_far)
memory_goes_on s sides so_far =
    let address = with_variable Probe s.address so_far.list in
    let board = memory_read_words s.word address.term sides.board_writes address.list in
    let machine = memory_read_words s.word address.term sides.machine_writes board.list in
    let listed = compared_in machine.list so_far.comparisons in
    goes_then so_far listed _
    (goes_listed so_far machine.list
    (front_then so_far.list address.list machine.list (front_variable Probe s.address so_far.list)
    (front_then address.list board.list machine.list
    (front_read s.word address.term sides.board_writes address.list)
    (front_read s.word address.term sides.machine_writes board.list))))
    (comparison_goes_on _ board.term machine.term listed)
