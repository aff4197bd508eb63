-- Lists in which each term that is no constant has a word, and so a number.
use Rattle.std.specs.Prelude.{◌≡◌, ℕ, ◌<◌, List, length, Bool, true, false, Some, None, IsSome, slice_get}
use Rattle.mw_term.specs.declared.kinds.WordKind.{WordKind}
use Rattle.mw_term.specs.declared.op.Op.{Op}
use Rattle.mw_term.specs.declared.op.Op.TheVariants.{Con}
use Rattle.mw_term.specs.declared.word.Word.{Word}
use Rattle.mw_term.specs.MemoryRead.{Held}
use Rattle.mw_term.specs.WordList.{WordList, word_number, with_constant, with_word, with_variable, memory_read_words}

-- an op is a constant
abbrev pub is_constant : Op → Bool
is_constant (Con number width) = true
is_constant op = false

-- each term that is no constant is that of a word, each word's term is one of the list's, and a constant has no word
pub record IsNumbered (l : WordList) : Type 0 where
  pub numbered : (term : ℕ) (op : Op) → slice_get l.ops term ≡ Some op → is_constant op ≡ false
      → IsSome (word_number l.words term)
  pub there : (place : ℕ) (w : Word) → slice_get l.words place ≡ Some w → w.term < length l.ops
  pub constants : (term : ℕ) (op : Op) → slice_get l.ops term ≡ Some op → is_constant op ≡ true
      → word_number l.words term ≡ None

-- a list is so with a constant more
abbrev pub StaysWithConstants : Type 0
StaysWithConstants = (number width : ℕ) (l : WordList) → IsNumbered l → IsNumbered (with_constant number width l).list

-- with a word more that is no constant
abbrev pub StaysWithWords : Type 0
StaysWithWords = (op : Op) (l : WordList) → is_constant op ≡ false → IsNumbered l → IsNumbered (with_word op l).list

-- with a variable more
abbrev pub StaysWithVariables : Type 0
StaysWithVariables = (kind : WordKind) (width : ℕ) (l : WordList) → IsNumbered l
    → IsNumbered (with_variable kind width l).list

-- and with the words of a memory read
abbrev pub StaysWithReads : Type 0
StaysWithReads = (width address : ℕ) (writes : List Held) (l : WordList) → IsNumbered l
    → IsNumbered (memory_read_words width address writes l).list
