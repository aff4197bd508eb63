-- Assignments, which give values to words; a word is known by its number.
use Rattle.std.specs.Prelude.{ℕ, unwrap_or}
use Rattle.std.specs.Ordering.{nat_cmp}
use Rattle.std.specs.FinMap as map

-- some words with the value of each
abbrev pub Numbers : Type 0
Numbers = map.FinMap nat_cmp ℕ

-- an assignment gives each word a value
abbrev pub Given : Type 0
Given = ℕ → ℕ

-- the assignment of some numbers: a word that isn't there has 0
unfoldable pub given_by : Numbers → Given
given_by numbers word = unwrap_or (map.get numbers word) 0
