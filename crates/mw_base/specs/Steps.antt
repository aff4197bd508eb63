-- Steps over a list, up to the first fault.
use Rattle.std.specs.Prelude.{List, [], ◌∷◌, Result, Ok}
use Rattle.mw_base.specs.Reading.{◌>>=◌}

-- what a step for each element makes of what there was, or the first fault
unfoldable pub steps : {A B F : Type 0} → (B → A → Result B F) → B → List A → Result B F
steps step before [] = Ok before
steps step before (x ∷ rest) = do
  after ← step before x
  steps step after rest
