-- Values that are kept for operations.
use Rattle.std.specs.Prelude.{◌≡◌, ◌⊎◌, ℕ, List, slice_get, Some}
use Rattle.mw_term.specs.Cofactors.{HasAtMostCofactors}
use Rattle.mw_dd.specs.declared.nodes.Node.{Node}
use Rattle.mw_dd.specs.declared.nodes.Triple.{Triple}
use Rattle.mw_dd.specs.declared.kept.Slot.{Slot}
use Rattle.mw_dd.specs.Bounds.{AreBounds}
use Rattle.mw_dd.specs.Nodes.{IsReduced}
use Rattle.mw_dd.specs.Steps.{AreDds, IsResult, meaning}

-- some slot has this value for this operation
abbrev pub IsKept : List Slot → Triple → ℕ → Type 0
IsKept slots t value =
    (i : ℕ) × (slot : Slot) × (slice_get slots i ≡ Some slot) × (slot.triple ≡ t) × (slot.value ≡ value)

-- what a slot has that nothing was put into
pub record IsNone (t : Triple) (value : ℕ) : Type 0 where
  pub f : t.f ≡ 0
  pub g : t.g ≡ 0
  pub h : t.h ≡ 0
  pub none : value ≡ 0

-- nothing was put into these slots
abbrev pub AreNone : List Slot → Type 0
AreNone slots = (t : Triple) (value : ℕ) → IsKept slots t value → IsNone t value

-- nothing else is kept than before
abbrev pub Stay : (old new : List Slot) → Type 0
Stay old new = (t : Triple) (value : ℕ) → IsKept new t value → IsNone t value ⊎ IsKept old t value

-- nor anything else than before and this
abbrev pub Adds : (old new : List Slot) → Triple → ℕ → Type 0
Adds old new own made = (t : Triple) (value : ℕ) → IsKept new t value
    → IsNone t value ⊎ (((t ≡ own) × (value ≡ made)) ⊎ IsKept old t value)

-- a value is the result of an operation
pub record IsMade (nodes : List Node) (t : Triple) (value : ℕ) : Type 0 where
  pub there : AreDds nodes t
  pub is : IsResult nodes t value

-- each result that is kept is one
abbrev pub AreMade : List Node → List Slot → Type 0
AreMade nodes slots = (t : Triple) (value : ℕ) → IsKept slots t value → IsMade nodes t value

-- a count is one that the joint cofactors of an operation don't pass
pub record IsCount (nodes : List Node) (t : Triple) (n : ℕ) : Type 0 where
  pub there : AreDds nodes t
  pub is : HasAtMostCofactors (meaning nodes t) n

-- each count that is kept is one
abbrev pub AreCounts : List Node → List Slot → Type 0
AreCounts nodes slots = (t : Triple) (n : ℕ) → IsKept slots t n → IsCount nodes t n

-- nodes, and what is kept of operations and of functions on them
pub record AreRight (nodes : List Node) (results counts : List Slot) (bounds : List ℕ) : Type 0 where
  pub reduced : IsReduced nodes
  pub made : AreMade nodes results
  pub counted : AreCounts nodes counts
  pub bounded : AreBounds nodes bounds
