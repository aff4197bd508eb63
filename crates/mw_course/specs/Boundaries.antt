-- The terms of all elements at a boundary, and what they are terms of.
use Rattle.std.specs.Prelude.{◌≡◌, ℕ, ◌<◌, ◌≤◌, List, length, slice_index}
use Rattle.mw_term.specs.declared.kinds.WordKind.{WordKind}
use Rattle.mw_term.specs.declared.kinds.WordKind.TheVariants.{Base, Element}
use Rattle.mw_term.specs.declared.word.Word.{Word}
use Rattle.mw_term.specs.Table.{Table}
use Rattle.mw_symmem.specs.Memory.{Memory, IsOfWidth}
use Rattle.mw_symmem.specs.Workspace.{HaveKinds, IsWorkspace}
use Rattle.mw_rel.specs.Job.{Job}
pub use Rattle.mw_space.specs.Spaces.{IsSpaceOf}

-- a table with the map of a job's board, the words of its terms, and a memory with the board's widths over them
abbrev pub IsSpace : Job → Table → List Word → Memory → Type 0
IsSpace job t words m = IsSpaceOf job.board t words m

-- the variable of an element with a lower number
abbrev pub IsElementBelow : (number : ℕ) → WordKind → Type 0
IsElementBelow number kind = (n : ℕ) × (n < number) × (kind ≡ Element n)

-- the variables that there are before the first cycle: those of free elements, and of what right sides read of the
-- memory
abbrev pub IsStartKind : WordKind → Type 0
IsStartKind (Element n) = Unit {0}
IsStartKind (Base n) = Unit {0}
IsStartKind other = ⊥

-- the first terms of a list, so many, have these widths
abbrev pub AreWideSoFar : Table → (widths : List ℕ) → (count : ℕ) → (terms : List ℕ) → Type 0
AreWideSoFar t widths count terms = (i : ℕ) → i < count → IsOfWidth t (slice_index widths i) (slice_index terms i)

-- a term for each of some widths, with that width
pub record AreWide (t : Table) (widths terms : List ℕ) : Type 0 where
  pub count : length terms ≡ length widths
  pub each : AreWideSoFar t widths (length widths) terms

-- a term of its width for each element of a job, over what is there before the first cycle
pub record AreElements (job : Job) (t : Table) (words : List Word) (m : Memory) (terms : List ℕ) : Type 0 where
  pub space : IsSpace job t words m
  pub wide : AreWide t job.relation.shape.widths terms
  pub kinds : HaveKinds IsStartKind words
  pub few : length m.reads ≤ 64
