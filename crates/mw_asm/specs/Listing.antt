-- Listings of assembled microprograms.
use Rattle.std.specs.Prelude.{ℕ, ◌==◌, List, ◌∷◌, [], ◌++◌, Bool, false, length, slice_index_or}
use Rattle.std.specs.Int.{div_ceil}
use Rattle.std.specs.List.{filter, flat_map, range_with_len}
use Rattle.mw_base.specs.Numbers.{padded}
use Rattle.mw_board.specs.declared.parts.BoardParts.{BoardParts}
use Rattle.mw_board.specs.Store.{word_at}
use Rattle.mw_asm.specs.declared.assembled.Assembled.{Assembled}
use Rattle.mw_asm.specs.declared.assembled.Label.{Label}

-- the labels of an address, in file order
abbrev pub labels_at : ℕ → List Label → List Label
labels_at at labels = filter (λ (label : Label). label.address == at) labels

-- what a listing shows of labels: a space and the name, for each
abbrev pub names_of : List Label → List ℕ
names_of labels = flat_map (λ (label : Label). 32 ∷ label.name) labels

-- a line: an address in three digits, a space, a word in a digit for each four of its bits, rounded up, what is shown
-- of labels, and a line feed
unfoldable pub line_of : BoardParts → ℕ → ℕ → List ℕ → List ℕ
line_of board at word names = padded 3 at ++ 32 ∷ padded (div_ceil board.microword 4) word ++ names ++ 10 ∷ []

-- the line of an address: its word and its labels
abbrev pub line_at : BoardParts → Assembled → ℕ → List ℕ
line_at board made at = line_of board at (word_at board made.store.words at) (names_of (labels_at at made.labels))

-- the addresses where a line of the microprogram put a word, in rising order
unfoldable pub addresses_of : List Bool → List ℕ
addresses_of used = filter (λ at. slice_index_or used at false) (range_with_len 0 (length used))

-- the lines of these addresses
unfoldable pub listing_of : BoardParts → Assembled → List ℕ
listing_of board made = flat_map (line_at board made) (addresses_of made.used)
