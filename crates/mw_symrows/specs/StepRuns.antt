-- A described step on terms with what it works on.
use Rattle.std.specs.Prelude.{◌≡◌, ℕ, ◌+◌, ◌<◌, ◌≤◌, ◌^◌, List, length, slice_index, true}
use Rattle.mw_expr.specs.declared.shape.Shape.{Shape}
use Rattle.mw_macro.specs.Machine.{Description}
use Rattle.mw_term.specs.declared.kinds.WordKind.{WordKind}
use Rattle.mw_term.specs.declared.kinds.WordKind.TheVariants.{Element, Line, Probe}
use Rattle.mw_term.specs.Table.{Table}
use Rattle.mw_symmem.specs.declared.turn.Turn.{Turn}
use Rattle.mw_symmem.specs.declared.turn.Turn.TheVariants.{Ask, Finished}
use Rattle.mw_term.specs.declared.word.Word.{Word}
use Rattle.mw_symmem.specs.Memory.{Memory, IsOfWidth}
use Rattle.mw_symmem.specs.Workspace.{HaveKinds, IsWorkspace}
use Rattle.mw_symmach.specs.Turns.{IsStepping, Stepping, is_asked, reads_to_come}

-- the variables that there are before a step
abbrev pub IsFirstKind : WordKind → Type 0
IsFirstKind (Element n) = Unit {0}
IsFirstKind (Line n) = Unit {0}
IsFirstKind Probe = Unit {0}
IsFirstKind other = ⊥

-- each variable is one of these
abbrev pub AreFirst : List Word → Type 0
AreFirst words = HaveKinds IsFirstKind words

-- the terms of the first registers, so many, have their widths
abbrev pub AreRegisters : Shape → Table → (count : ℕ) → (terms : List ℕ) → Type 0
AreRegisters s t count terms = (i : ℕ) → i < count → IsOfWidth t (slice_index s.widths i) (slice_index terms i)

-- a step and what it works on, before its end
pub record IsUnderway (d : Description) (t : Table) (words : List Word) (m : Memory) (o : Stepping) : Type 0 where
  pub address : m.address ≡ d.shape.address
  pub workspace : IsWorkspace t words m
  pub stepping : IsStepping d t words m o
  pub few : length m.reads + reads_to_come d o < 2 ^ 32

-- the same at its end
pub record IsEnded (d : Description) (t : Table) (words : List Word) (m : Memory) (o : Stepping) : Type 0 where
  pub address : m.address ≡ d.shape.address
  pub workspace : IsWorkspace t words m
  pub few : length m.reads < 2 ^ 32
  pub count : d.registers ≤ length o.parts.values

-- what holds after a turn
abbrev pub IsTurned : Description → Table → List Word → Memory → Stepping → Turn → Type 0
IsTurned d t words m o (Ask kind term) = IsUnderway d t words m o × (is_asked o.pending ≡ true)
IsTurned d t words m o Finished = IsEnded d t words m o
