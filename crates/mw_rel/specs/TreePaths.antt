-- The path of decided bits in a tree of word lists, and where their path words stand in the list.
use Rattle.std.specs.Prelude.{◌≡◌, ℕ, ◌+◌, List, [], ◌∷◌, ◌++◌, length, Bool, true, false, Option, Some, None}
use Rattle.std.specs.Prelude.{option_map, slice_get}
use Rattle.mw_term.specs.declared.decided.Decided.{Decided}
use Rattle.mw_term.specs.Assigned.{Given}
use Rattle.mw_term.specs.Functions.{Function, Triple, always, made, never}
use Rattle.mw_term.specs.PathWords.{path_one, path_zero}
use Rattle.mw_term.specs.Rows.{bit}
use Rattle.mw_term.specs.Table.{Table}
use Rattle.mw_term.specs.Values.{term_value}
use Rattle.mw_term.specs.WordList.{WordList, word_number, table_in}
use Rattle.mw_rel.specs.ComparisonWords.{Comparison}
use Rattle.mw_rel.specs.WordTree.{WordTree}

-- the bit of a term that is asked for; where none is, the bit is 0
abbrev pub bit_asked : Table → Option ℕ → Function
bit_asked t (Some term) = bit t term 0
bit_asked t None = never

-- the bit that decided bits ask for next
abbrev pub next_bit : WordTree → List Decided → Function
next_bit tree bits = bit_asked (table_in tree.map (tree.words bits).list) (tree.words bits).asked

-- the path word of a bit for one of its values
abbrev pub path_word : (path b : Function) → (value : Bool) → Triple
path_word path b false = path_zero path b
path_word path b true = path_one path b

-- the path of decided bits behind others, whose path is this
abbrev pub path_behind : WordTree → (before bits : List Decided) → (path : Function) → Function
path_behind tree before [] path = path
path_behind tree before (d ∷ rest) path =
    path_behind tree (before ++ d ∷ []) rest (made (path_word path (next_bit tree before) d.value))

-- The path of decided bits: it begins as 1.
unfoldable pub path_along : WordTree → List Decided → Function
path_along tree bits = path_behind tree [] bits always

-- the path word of a comparison of a whole case
abbrev pub comparison_word : WordTree → (bits : List Decided) → Comparison → Triple
comparison_word tree bits c = path_zero (path_along tree bits) (bit (table_in tree.map c.list) c.term 0)

-- ---- where a path word stands

-- a list's word with a number, which is counted from 1, has this term
abbrev pub IsWord : WordList → (number term : ℕ) → Type 0
IsWord l number term =
    (place : ℕ) × (number ≡ place + 1) × (option_map (λ w. w.term) (slice_get l.words place) ≡ Some term)

-- two terms have one value under every assignment
abbrev pub HaveOneValue : Table → (a b : ℕ) → Type 0
HaveOneValue t a b = (given : Given) → term_value t given a ≡ term_value t given b

-- A path word of a term stands at the term's word, and at each other word of the list that has one value with it. That
-- of a constant, which has no word, stands at the last word before it, or at 0 where there is none.
pub data StandsAtWord (t : Table) (l : WordList) (before : WordList) (term : ℕ) (number : ℕ) : Type 0 where
  at_word : (own other : ℕ) → IsWord l own term → IsWord l number other → HaveOneValue t other term
      → StandsAtWord t l before term number
  at_constant : word_number l.words term ≡ None → number ≡ length before.words → StandsAtWord t l before term number
