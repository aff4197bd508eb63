-- The lines of a text as bytes; `TokenLines` has their tokens. Each ends with a line feed; the last may lack it. A
-- carriage return just before a line feed is ignored.
use Rattle.std.specs.Prelude.{ℕ, ◌-◌, List, [], ◌∷◌, ◌==◌, if◌then◌else◌, length, take, nat_eq, not}
use Rattle.std.specs.List.{ends_with, prefix_len}

-- lines whose first begins with one byte more
abbrev pub with_byte : ℕ → List (List ℕ) → List (List ℕ)
with_byte c [] = (c ∷ []) ∷ []
with_byte c (line ∷ rest) = (c ∷ line) ∷ rest

-- the lines, each with the line feed that ends it
unfoldable pub lines_of : List ℕ → List (List ℕ)
lines_of [] = []
lines_of (c ∷ rest) = if c == 10 then (c ∷ []) ∷ lines_of rest else with_byte c (lines_of rest)

-- how many bytes stand before the first line feed
abbrev pub before_feed : List ℕ → ℕ
before_feed text = prefix_len (λ c. not (c == 10)) text

-- a line without the line feed at its end and a carriage return just before that
abbrev pub content : List ℕ → List ℕ
content line =
    if ends_with nat_eq line (13 ∷ 10 ∷ []) then take (length line - 2) line
    else (if ends_with nat_eq line (10 ∷ []) then take (length line - 1) line else line)
