-- Terms beside one another.
use Rattle.std.specs.Prelude.{ℕ, ◌+◌, List, [], ◌∷◌}
use Rattle.mw_base.specs.Words as bits
use Rattle.mw_term.specs.Assigned.{Given}
use Rattle.mw_term.specs.Table.{Table, term_width}
use Rattle.mw_term.specs.Values.{term_value}

-- how many bits some terms have together
abbrev pub width_together : Table → List ℕ → ℕ
width_together t [] = 0
width_together t (term ∷ rest) = term_width t term + width_together t rest

-- the values of some terms one above another, the first highest
abbrev pub joined_value : Table → Given → List ℕ → ℕ
joined_value t given [] = 0
joined_value t given (term ∷ rest) =
    bits.join (width_together t rest) (term_value t given term) (joined_value t given rest)
