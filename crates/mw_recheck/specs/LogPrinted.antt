-- The text of a log, as it is printed.
use Rattle.std.specs.Prelude.{ℕ, ◌^◌, List, [], ◌∷◌, ◌++◌, codes, Bool, nat_lt}
use Rattle.std.specs.List.{flat_map, list_all}
use Rattle.mw_base.specs.Numbers.{decimal}
use Rattle.mw_recheck.specs.declared.line.LogLine.{LogLine}
use Rattle.mw_recheck.specs.declared.line.LogLine.TheVariants as says

-- a number behind a blank
abbrev pub number_text : ℕ → List ℕ
number_text n = codes " " ++ decimal n

-- a word and numbers, and the line's end
abbrev pub numbers_line : (word numbers : List ℕ) → List ℕ
numbers_line word numbers = word ++ flat_map number_text numbers ++ codes "\n"

-- n WORD BIT HIGH LOW, or i F G H R
unfoldable pub line_text : LogLine → List ℕ
line_text (says.Node word bit high low) = numbers_line (codes "n") (word ∷ bit ∷ high ∷ low ∷ [])
line_text (says.Fact f g h r) = numbers_line (codes "i") (f ∷ g ∷ h ∷ r ∷ [])

-- boundary, and then its lines
unfoldable pub boundary_text : List LogLine → List ℕ
boundary_text lines = codes "boundary\n" ++ flat_map line_text lines

-- the boundaries, in order
unfoldable pub log_text : List (List LogLine) → List ℕ
log_text log = flat_map boundary_text log

-- ---- the range of what is printed

-- the numbers of a line
abbrev pub numbers_in : LogLine → List ℕ
numbers_in (says.Node word bit high low) = word ∷ bit ∷ high ∷ low ∷ []
numbers_in (says.Fact f g h r) = f ∷ g ∷ h ∷ r ∷ []

-- numbers have 64 bits at most
abbrev pub have_64_bits : List ℕ → Bool
have_64_bits numbers = list_all (λ n. nat_lt n (2 ^ 64)) numbers

-- the numbers of a line have
abbrev pub is_narrow : LogLine → Bool
is_narrow line = have_64_bits (numbers_in line)

-- those of each of these lines have
abbrev pub are_narrow : List LogLine → Bool
are_narrow lines = list_all is_narrow lines
