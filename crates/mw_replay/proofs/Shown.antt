-- What a start shows, from its run and its step.
use Rattle.std.proofs.Common.{◌≡◌, [], ◌∷◌, Option, Some, None, refl}
use Rattle.std.specs.Option.{option_or}
use Rattle.mw_rel.specs.declared.difference.Difference.{Difference}
use Rattle.mw_rel.specs.Differs.{first_of}

-- the first of four, one after another
pub first_of_four : (a b c d : Option Difference)
    → first_of (a ∷ b ∷ c ∷ d ∷ []) ≡ option_or (option_or (option_or a b) c) d
first_of_four (Some x) b c d = refl
first_of_four None (Some x) c d = refl
first_of_four None None (Some x) d = refl
first_of_four None None None (Some x) = refl
first_of_four None None None None = refl
