-- What an environment has for its variables.
use Rattle.std.specs.Prelude.{◌≡◌, ℕ, List, Bool, true, if◌then◌else◌, Option, Some, None, is_some, slice_index}
use Rattle.mw_term.specs.declared.side.Side.{Side}
use Rattle.mw_cycle.specs.declared.series.Series.{Series}
use Rattle.mw_cycle.specs.Environment.{Environment, values_of}
use Rattle.mw_cycle.specs.Series.{series_of_kind}
use Rattle.mw_cycle.specs.SteadyEnvironment.{Environment as SteadyEnvironment}
use Rattle.mw_term.specs.declared.kinds.WordKind.{WordKind}
use Rattle.mw_term.specs.declared.word.Word.{Word}
use Rattle.mw_term.specs.Assigned.{Given}
use Rattle.mw_term.specs.Table.{Table}
use Rattle.mw_term.specs.Values.{term_value}
use Rattle.mw_term.specs.WordList.{same_kind, term_of}

-- the value of a list with a number, and 0 where none is named
abbrev pub value_at : Environment → Option (Series × ℕ) → ℕ
value_at env (Some named) = slice_index (values_of env named.0) named.1
value_at env None = 0

-- the value that a variable of this kind stands for in the environment of the board of a side, and 0 where it is none of
-- that
abbrev pub entry : Side → Environment → WordKind → ℕ
entry side env kind = value_at env (series_of_kind side kind)

-- whether a kind is that of a variable of the environment of the board of a side
abbrev pub is_outside : Side → WordKind → Bool
is_outside side kind = is_some (series_of_kind side kind)

-- an environment but for its wait list
abbrev pub but_waits : Environment → SteadyEnvironment
but_waits env = record { line = env.line; noise = env.noise; inputs = env.inputs }

-- an environment has taken a value: that for this kind is this, and each other is as it was
abbrev pub HasTaken : Side → (old new : Environment) → WordKind → (value : ℕ) → Type 0
HasTaken side old new kind value = (other : WordKind) → is_outside side other ≡ true
    → entry side new other ≡ (if same_kind kind other then value else entry side old other)

-- what a term has under an assignment; 0 where there is none
abbrev pub value_or_zero : Table → Given → Option ℕ → ℕ
value_or_zero t given (Some term) = term_value t given term
value_or_zero t given None = 0

-- an environment has the values of the variables that an assignment gives
abbrev pub HasEntries : Side → Table → List Word → Given → Environment → Type 0
HasEntries side t words given env =
    (kind : WordKind) → is_outside side kind ≡ true → entry side env kind ≡ value_or_zero t given (term_of words kind)
