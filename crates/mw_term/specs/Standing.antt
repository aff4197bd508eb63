-- A written list stands in a table of terms. The table is free to hold more, to hold an op once where the list has it
-- several times, and to answer for an op by a shortcut.
use Rattle.std.specs.Prelude.{◌≡◌, ℕ, ◌<◌, ◌≤◌, List, length, Some, false, slice_get}
use Rattle.mw_term.specs.declared.op.Op.{Op}
use Rattle.mw_term.specs.Assigned.{Given}
use Rattle.mw_term.specs.Numbered.{is_constant}
use Rattle.mw_term.specs.Operands.{placed}
use Rattle.mw_term.specs.Table.{Table, term_width}
use Rattle.mw_term.specs.Values.{term_value}

-- a written term stands at a term of the table: that has its width and, under every assignment, its value
pub record StandsAt (l t : Table) (term place : ℕ) : Type 0 where
  pub there : place < length t.ops
  pub width : term_width t place ≡ term_width l term
  pub value : (given : Given) → term_value t given place ≡ term_value l given term

-- the least written term that stands at a place
pub record IsFirstAt (places : List ℕ) (place first : ℕ) : Type 0 where
  pub stands : slice_get places first ≡ Some place
  pub least : (term : ℕ) → slice_get places term ≡ Some place → first ≤ term

-- A term of the table, at which a written term stands, has the op of the least that stands there, with its operands at
-- their places.
pub record HasOpOfFirst (l t : Table) (places : List ℕ) (place : ℕ) (op : Op) : Type 0 where
  pub first : ℕ
  pub written : Op
  pub is : IsFirstAt places place first
  pub has : slice_get l.ops first ≡ Some written
  pub same : op ≡ placed places written

-- The first of the written terms stand in the table, as many as there are places. Where one stands at a term that is no
-- constant, that term has the op of the least written term that stands there; so each operand of it is a term at which
-- an earlier written term stands.
pub record StandsIn (l t : Table) (places : List ℕ) : Type 0 where
  pub map : t.map ≡ l.map
  pub few : length places ≤ length l.ops
  pub at : (term place : ℕ) → slice_get places term ≡ Some place → StandsAt l t term place
  pub ops : (term place : ℕ) (op : Op) → slice_get places term ≡ Some place → slice_get t.ops place ≡ Some op
      → is_constant op ≡ false → HasOpOfFirst l t places place op
