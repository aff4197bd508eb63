-- Which terms of a list have a number: each with an operation that is over a budget, and each operand that is
-- no constant.
use Rattle.std.specs.Prelude.{◌≡◌, ℕ, ◌⊎◌, List, Contains, Some, IsSome, slice_get}
use Rattle.mw_term.specs.declared.op.Op.{Op}
use Rattle.mw_term.specs.declared.op.Op.TheVariants.{Con}
use Rattle.mw_term.specs.Numbered.{IsNumbered}
use Rattle.mw_term.specs.Operands.{operands}
use Rattle.mw_term.specs.Table.{IsTable}
use Rattle.mw_term.specs.WordList.{WordList, word_number, table_in}
use Rattle.mw_blast.specs.Causes.{IsOver}

-- a term of a list is a constant, or that of a word
abbrev pub IsKnown : WordList → (term : ℕ) → Type 0
IsKnown l term =
    ((number : ℕ) × (width : ℕ) × (slice_get l.ops term ≡ Some (Con number width))) ⊎ IsSome (word_number l.words term)

-- where each term that is no constant has a word, so has one with an operation that is over a budget
abbrev pub OverHaveNumbers : Type 0
OverHaveNumbers = (map : List ℕ) (l : WordList) (term j budget : ℕ) → IsNumbered l
    → IsOver (table_in map l) term j budget → IsSome (word_number l.words term)

-- and the operands of each term are constants or terms of words
abbrev pub OperandsAreKnown : Type 0
OperandsAreKnown = (map : List ℕ) (l : WordList) (term operand : ℕ) (op : Op) → IsNumbered l → IsTable (table_in map l)
    → slice_get l.ops term ≡ Some op → Contains (operands op) operand → IsKnown l operand
