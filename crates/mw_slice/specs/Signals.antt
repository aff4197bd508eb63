-- The signals of a board as it stands, in lists of lines.
use Rattle.std.specs.Prelude.{ℕ, ◌+◌, Bool, List, [], ◌∷◌}
use Rattle.mw_slice.specs.declared.am2901.SliceOut.{SliceOut}
use Rattle.mw_slice.specs.declared.board.Board.{Board}
use Rattle.mw_slice.specs.Board.{slice_at, generate_at, propagate_at, carry_into_slice}

-- the answers of slice k
abbrev pub slice_on : Board → ℕ → Bool → SliceOut
slice_on board k c = slice_at board.ins board.a board.b board.q board.d k c

-- G of slice k
abbrev pub generate_on : Board → ℕ → Bool
generate_on board k = generate_at board.slices board.ins board.a board.b board.q board.d k

-- P of slice k
abbrev pub propagate_on : Board → ℕ → Bool
propagate_on board k = propagate_at board.slices board.ins board.a board.b board.q board.d k

-- the carry into slice k
abbrev pub carry_on : Board → Bool → ℕ → Bool
carry_on board c k = carry_into_slice (generate_on board) (propagate_on board) c k

-- four lines in a row
abbrev pub four_of : (ℕ → Bool) → ℕ → List Bool
four_of lines first = lines first ∷ lines (first + 1) ∷ lines (first + 2) ∷ lines (first + 3) ∷ []

-- eight lines in a row
abbrev pub eight_of : (ℕ → Bool) → List Bool
eight_of lines = lines 0 ∷ lines 1 ∷ lines 2 ∷ lines 3 ∷ lines 4 ∷ lines 5 ∷ lines 6 ∷ lines 7 ∷ []
