-- A symbolic board with what it works on, from cycle to cycle.
use Rattle.std.specs.Prelude.{◌≡◌, ℕ, ◌+◌, ◌<◌, ◌≤◌, List, None, slice_index}
use Rattle.mw_board.specs.declared.parts.BoardParts.{BoardParts}
use Rattle.mw_cycle.specs.Elements.{bits_of, element_of}
use Rattle.mw_term.specs.declared.kinds.WordKind.{WordKind}
use Rattle.mw_term.specs.declared.kinds.WordKind.TheVariants.{Element, Probe}
use Rattle.mw_term.specs.Table.{Table}
use Rattle.mw_symmem.specs.declared.turn.Turn.{Turn}
use Rattle.mw_symmem.specs.declared.turn.Turn.TheVariants.{Ask, Finished}
use Rattle.mw_term.specs.declared.word.Word.{Word}
use Rattle.mw_symmem.specs.Memory.{Memory, IsOfWidth}
use Rattle.mw_symmem.specs.Workspace.{HaveKinds, IsWorkspace}
use Rattle.mw_symboard.specs.Parts.{AreParts}
use Rattle.mw_symboard.specs.Turns.{Asks, IsSymbolic, Symbolic}

-- the variables that there are before a cycle
abbrev pub IsFreeKind : WordKind → Type 0
IsFreeKind (Element n) = Unit {0}
IsFreeKind Probe = Unit {0}
IsFreeKind other = ⊥

-- each variable is one of these
abbrev pub AreFree : List Word → Type 0
AreFree words = HaveKinds IsFreeKind words

-- the terms of the first elements of a board, so many, have their widths
abbrev pub AreSoFar : BoardParts → Table → (count : ℕ) → (terms : List ℕ) → Type 0
AreSoFar board t count terms =
    (n : ℕ) → n < count → IsOfWidth t (bits_of board (element_of board n)) (slice_index terms n)

-- a board and what it works on, within a cycle
pub record IsUnder (board : BoardParts) (store : List ℕ) (t : Table) (words : List Word) (m : Memory)
    (o : Symbolic) : Type 0 where
  pub map : t.map ≡ board.map_entries
  pub address : m.address ≡ board.address
  pub word : m.word ≡ board.width
  pub taken : o.place.taken ≤ o.place.cycle
  pub workspace : IsWorkspace t words m
  pub symbolic : IsSymbolic board store t words m o

-- the same after a cycle
pub record IsOver (board : BoardParts) (t : Table) (words : List Word) (m : Memory) (o : Symbolic) : Type 0 where
  pub address : m.address ≡ board.address
  pub workspace : IsWorkspace t words m
  pub parts : AreParts board t o.place.parts

-- a board waits for no bit, and so many cycles are finished
pub record IsIdle (o : Symbolic) (count : ℕ) : Type 0 where
  pub idle : o.asked ≡ None
  pub cycles : o.place.cycle ≡ count

-- what holds after a turn, before which so many cycles were finished
abbrev pub IsTurned : BoardParts → List ℕ → (cycles : ℕ) → Table → List Word → Memory → Symbolic → Turn → Type 0
IsTurned board store cycles t words m o (Ask kind term) =
    IsUnder board store t words m o × (o.place.cycle ≡ cycles) × Asks board store t words m o kind term
IsTurned board store cycles t words m o Finished =
    IsUnder board store t words m o × IsIdle o (cycles + 1) × IsOver board t words m o
