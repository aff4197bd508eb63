-- The variables that a cycle makes, and the widths of a list's.
use Rattle.std.specs.Prelude.{◌≡◌, ℕ, ◌⊎◌, List, true, Option, Some, None}
use Rattle.mw_board.specs.declared.parts.BoardParts.{BoardParts}
use Rattle.mw_term.specs.declared.kinds.WordKind.{WordKind}
use Rattle.mw_term.specs.declared.kinds.WordKind.TheVariants.{Base, Input}
use Rattle.mw_cycle.specs.SteadySeries.{Series, Line, goes_by_cycle, kind_of, width_of}
use Rattle.mw_term.specs.declared.side.Side.{Side}
use Rattle.mw_term.specs.Table.{Table}
use Rattle.mw_term.specs.declared.word.Word.{Word}
use Rattle.mw_symmem.specs.Memory.{IsOfWidth}
use Rattle.mw_term.specs.WordList.{term_of}

-- the source of D makes a base read's variable, or that of the next input
abbrev pub IsSourceKind : (taken : ℕ) → WordKind → Type 0
IsSourceKind taken kind = ((k : ℕ) × (kind ≡ Base k)) ⊎ (kind ≡ Input taken)

-- A cycle of the board of a side makes these, and the variables of its values of the lists that go by cycle; none for
-- its line, where a term of that was there before.
abbrev pub IsCycleKind : Side → (cycle taken : ℕ) → (line : Option ℕ) → WordKind → Type 0
IsCycleKind side cycle taken line kind = IsSourceKind taken kind
    ⊎ ((series : Series) × (goes_by_cycle series ≡ true) × (series ≡ Line → line ≡ None)
    × (kind ≡ kind_of side series cycle))

-- the variables of a list that there are have the list's width
abbrev pub HaveWidth : Side → BoardParts → Table → List Word → Series → Type 0
HaveWidth side board t words series =
    (n term : ℕ) → term_of words (kind_of side series n) ≡ Some term → IsOfWidth t (width_of board.width series) term

-- so have those of all lists
abbrev pub HaveWidths : Side → BoardParts → Table → List Word → Type 0
HaveWidths side board t words = (series : Series) → HaveWidth side board t words series

-- the variables of inputs that there are have the board's width
abbrev pub AreInputs : BoardParts → Table → List Word → Type 0
AreInputs board t words = (n term : ℕ) → term_of words (Input n) ≡ Some term → IsOfWidth t board.width term
