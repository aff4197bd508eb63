-- Lines of reports that several commands print.
use Rattle.std.specs.Prelude.{ℕ, List, [], ◌∷◌, ◌++◌, codes, length, slice_index, if◌then◌else◌, ◌==◌}
use Rattle.std.specs.List.{flat_map, range_with_len}
use Rattle.mw_base.specs.Numbers.{hex}
use Rattle.mw_base.specs.declared.event.Event.{Event}
use Rattle.mw_base.specs.declared.event.Event.TheVariants.{Out, Taken}

-- a line ends with a line feed
abbrev pub line : List ℕ → List ℕ
line text = text ++ 10 ∷ []

-- the line of a value, which begins with what and whose it is; none where it is 0
unfoldable pub value_line : (front name : List ℕ) → ℕ → List ℕ
value_line front name value = if value == 0 then [] else line (front ++ name ++ 32 ∷ hex value)

-- the line of an event
abbrev pub event_line : Event → List ℕ
event_line (Out word) = line (codes "out " ++ hex word)
event_line (Taken word) = line (codes "taken " ++ hex word)

-- mem ADDRESS VALUE; none where the value is 0
unfoldable pub word_line : ℕ → ℕ → List ℕ
word_line address word = if word == 0 then [] else line (codes "mem " ++ hex address ++ codes " " ++ hex word)

-- the lines of a memory, in rising order of addresses
abbrev pub memory_lines : List ℕ → List ℕ
memory_lines words =
    flat_map (λ address. word_line address (slice_index words address)) (range_with_len 0 (length words))
