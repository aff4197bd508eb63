-- Lists and environments without the zeros at their ends.
use Rattle.std.specs.Prelude.{◌≢◌, ◌<◌, ◌-◌, ◌==◌, if◌then◌else◌, ℕ, List, [], ◌∷◌, length, slice_index}
use Rattle.mw_board.specs.declared.parts.BoardParts.{BoardParts}
use Rattle.mw_cycle.specs.declared.series.Series.{Series}
use Rattle.mw_cycle.specs.Environment.{Environment, IsEnvironment, values_of, with_lists}

-- an item before those that are left without the zeros at their end
abbrev pub before_trimmed : ℕ → List ℕ → List ℕ
before_trimmed x [] = if x == 0 then [] else x ∷ []
before_trimmed x (y ∷ rest) = x ∷ y ∷ rest

-- a list without the zeros at its end
unfoldable pub trimmed : List ℕ → List ℕ
trimmed [] = []
trimmed (x ∷ rest) = before_trimmed x (trimmed rest)

-- an environment without the zeros at its lists' ends
abbrev pub shortened : Environment → Environment
shortened env = with_lists (λ series. trimmed (values_of env series))

-- a list's last number, where it has one, isn't 0
abbrev pub EndsWell : List ℕ → Type 0
EndsWell xs = 0 < length xs → slice_index xs (length xs - 1) ≢ 0

-- no list of an environment has a 0 at its end
abbrev pub IsTrimmed : Environment → Type 0
IsTrimmed env = (series : Series) → EndsWell (values_of env series)

-- an environment without the zeros at its lists' ends is again one
abbrev pub ShortenedAreEnvironments : Type 0
ShortenedAreEnvironments = (board : BoardParts) (env : Environment) → IsEnvironment board env
    → IsEnvironment board (shortened env)
