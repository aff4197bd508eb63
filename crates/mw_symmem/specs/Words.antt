-- The words of a case, in their order.
use Rattle.std.specs.Prelude.{◌≡◌, ℕ, ◌+◌, ◌<◌, List, [], length, Some, slice_get}
use Rattle.mw_term.specs.declared.kinds.WordKind.{WordKind}
use Rattle.mw_term.specs.declared.op.Op.{Op}
use Rattle.mw_term.specs.declared.op.Op.TheVariants.{Var}
use Rattle.mw_term.specs.Table.{Table, table_of}
use Rattle.mw_term.specs.WordList.{variable}
use Rattle.mw_term.specs.declared.word.Word.{Word}

-- a word of this place, from 0, is a variable with this term and of this kind
abbrev pub IsVariable : List Word → (place term : ℕ) → WordKind → Type 0
IsVariable words place term kind = slice_get words place ≡ Some (variable term kind)

-- no two variables of a list have one kind
abbrev pub HaveOwnKinds : List Word → Type 0
HaveOwnKinds words =
    (kind : WordKind) (i j a b : ℕ) → IsVariable words i a kind → IsVariable words j b kind → i ≡ j

-- ---- words of a table

-- a variable of a table is a word of a list, by its number
pub record IsListed (words : List Word) (term n : ℕ) : Type 0 where
  pub place : ℕ
  pub kind : WordKind
  pub number : n ≡ place + 1
  pub is : IsVariable words place term kind

-- What holds between a table and the words of its terms: each word's term is one of the table; a variable of the list
-- is the table's variable of its number; and each variable of the table is a word of the list.
pub record AreOf (t : Table) (words : List Word) : Type 0 where
  pub there : (place : ℕ) (w : Word) → slice_get words place ≡ Some w → w.term < length t.ops
  pub variables : (place term : ℕ) (kind : WordKind) → IsVariable words place term kind
      → (width : ℕ) × (slice_get t.ops term ≡ Some (Var (place + 1) width))
  pub listed : (term number width : ℕ) → slice_get t.ops term ≡ Some (Var number width) → IsListed words term number

-- an op that is no variable
abbrev pub IsNoVariable : Op → Type 0
IsNoVariable op = (number width : ℕ) → ¬ (op ≡ Var number width)

-- no words are those of a table without terms
abbrev pub AreOfAtFirst : Type 0
AreOfAtFirst = (map : List ℕ) → AreOf (table_of [] map) []
