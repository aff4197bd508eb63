-- The branch bits of a described step: for each `if` that it meets, in their order, whether its condition is 1.
use Rattle.std.specs.Prelude.{ℕ, List, [], ◌∷◌, ◌++◌, Bool, ◌==◌, if◌then◌else◌}
use Rattle.mw_expr.specs.declared.shape.Shape.{Shape}
use Rattle.mw_expr.specs.Values.{value}
use Rattle.mw_macro.specs.DescribedStep.{Now, after, begun}
use Rattle.mw_macro.specs.Machine.{Description}
use Rattle.mw_macro.specs.State.{MachineState}
use Rattle.mw_macro.specs.Statements.{Act, assign, write, put, take_in, choose, Acts, nothing, next}

-- those of an act, where the inputs of this step are those from the number first on
abbrev mutual
  pub branches : Shape → (inputs : List ℕ) (first : ℕ) → Act → Now → List Bool
  branches s inputs first (assign target e) old = []
  branches s inputs first (write address e) old = []
  branches s inputs first (put e) old = []
  branches s inputs first (take_in target) old = []
  branches s inputs first (choose condition one other) old =
      (value s old.values old.memory condition == 1)
      ∷ (if value s old.values old.memory condition == 1 then branches_in s inputs first one old
      else branches_in s inputs first other old)

  -- those of acts, each in its turn
  pub branches_in : Shape → (inputs : List ℕ) (first : ℕ) → Acts → Now → List Bool
  branches_in s inputs first nothing old = []
  branches_in s inputs first (next act rest) old =
      branches s inputs first act old ++ branches_in s inputs first rest (after s inputs first act old)

-- those of a step of a machine from a state, with a request bit, that takes inputs from a number on
unfoldable pub branches_of : Description → MachineState → (request : Bool) → (inputs : List ℕ) (first : ℕ) → List Bool
branches_of m state request inputs first = branches_in m.shape inputs first m.acts (begun m state request)
