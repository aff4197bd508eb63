-- The values of the elements of a pair, from those of its free elements and its memory.
use Rattle.std.specs.Prelude.{◌≡◌, ℕ, ◌<◌, ◌^◌, List, [], ◌∷◌, length, Bool, true, if◌then◌else◌, ◌==◌, filter}
use Rattle.std.specs.Prelude.{slice_index}
use Rattle.mw_cycle.specs.Boundary.{numbers}
use Rattle.mw_cycle.specs.State.{BoardState}
use Rattle.mw_expr.specs.declared.shape.Shape.{Shape}
use Rattle.mw_expr.specs.Values.{value}
use Rattle.mw_rel.specs.Lines.{Line}

-- how many of the elements before one are free
abbrev pub free_before : (ℕ → Bool) → ℕ → ℕ
free_before free e = length (filter free (numbers 0 e))

-- the value of a free element is the given one at its place among the free ones; here the others are 0
abbrev pub free_value : (ℕ → Bool) → (given : List ℕ) → ℕ → ℕ
free_value free given e = if free e then slice_index given (free_before free e) else 0

-- an element on the left of a line has the value of the right side, and one on no left side its own
abbrev pub value_by : Shape → (values memory : List ℕ) → List Line → ℕ → ℕ
value_by s values memory [] e = slice_index values e
value_by s values memory (line ∷ rest) e =
    if line.left == e then value s values memory line.right else value_by s values memory rest e

-- a line holds of a list of values
abbrev pub HoldsIn : Shape → (values memory : List ℕ) → Line → Type 0
HoldsIn s values memory line = slice_index values line.left ≡ value s values memory line.right

-- the state of a board that stands at an address, with a stack pointer and a memory, and is else as it was
abbrev pub standing : BoardState → (at sp : ℕ) → (memory : List ℕ) → BoardState
standing s at sp memory = record s { at = at; seq = record s.seq { sp = sp }; memory = memory }

-- an element that is free has one of the given values, at its place among the free ones, and this is a word
-- of its width
abbrev pub IsGiven : (ℕ → Bool) → (given : List ℕ) → (width e : ℕ) → Type 0
IsGiven free given width e = free e ≡ true
    → (free_before free e < length given) × (slice_index given (free_before free e) < 2 ^ width)

-- so has each element that is free, and there are no more values
pub record AreGiven (free : ℕ → Bool) (given widths : List ℕ) : Type 0 where
  pub count : length given ≡ free_before free (length widths)
  pub each : (e : ℕ) → e < length widths → IsGiven free given (slice_index widths e) e
