-- The outside of a run, whose memory may not be ready.
use Rattle.std.specs.Prelude.{◌≡◌, ℕ, ◌<◌, ◌^◌, List, [], ◌++◌, Bool, false, ◌==◌, drop, map}
use Rattle.std.specs.Prelude.{slice_index, slice_index_or, slice_set}
use Rattle.mw_base.specs.Words.{num}
use Rattle.mw_board.specs.declared.parts.BoardParts.{BoardParts}
use Rattle.mw_cycle.specs.declared.environment.Clock.{Clock}
use Rattle.mw_cycle.specs.declared.series.Series.{Series}
use Rattle.mw_cycle.specs.declared.series.Series.TheVariants.{Inputs, Line, Noise, Wait}
use Rattle.mw_cycle.specs.declared.state.CycleIn.{CycleIn}
use Rattle.mw_cycle.specs.Series.{width_of}

-- the interrupt bit per clock, the noise word per clock, the wait bit per clock, and the input words by number taken;
-- past its end each list is 0
pub record Environment : Type 0 where
  pub line : List Bool
  pub noise : List ℕ
  pub wait : List Bool
  pub inputs : List ℕ

-- a run's place before its first clock
abbrev pub at_start : Clock
at_start = record { cycle = 0; taken = 0; clocks = 0 }

-- what the environment has for the clock at a place: the line and the noise of this clock, and the next input
abbrev pub given_at : Environment → Clock → CycleIn
given_at env place = record {
  noise = slice_index env.noise place.clocks;
  line = slice_index_or env.line place.clocks false;
  input = slice_index env.inputs place.taken;
}

-- the wait bit of the clock at a place
abbrev pub wait_bit : Environment → Clock → Bool
wait_bit env place = slice_index_or env.wait place.clocks false

-- what is left of the environment at a place
abbrev pub rest_at : Environment → Clock → Environment
rest_at env place = record {
  line = drop place.clocks env.line;
  noise = drop place.clocks env.noise;
  wait = drop place.clocks env.wait;
  inputs = drop place.taken env.inputs;
}

-- ---- list by list

-- the values of a list, as numbers
abbrev pub values_of : Environment → Series → List ℕ
values_of env Inputs = env.inputs
values_of env Line = map num env.line
values_of env Noise = env.noise
values_of env Wait = map num env.wait

-- each value of a list has at most the list's bits
pub record IsEnvironment (board : BoardParts) (env : Environment) : Type 0 where
  pub values : (series : Series) (i : ℕ) → slice_index (values_of env series) i < 2 ^ width_of board.width series

-- what is left of an environment is again one
abbrev pub RestsAreEnvironments : Type 0
RestsAreEnvironments = (board : BoardParts) (env : Environment) (place : Clock)
    → IsEnvironment board env → IsEnvironment board (rest_at env place)

-- the environment whose lists have these values
abbrev pub with_lists : (Series → List ℕ) → Environment
with_lists values = record {
  line = map (λ value. value == 1) (values Line);
  noise = values Noise;
  wait = map (λ value. value == 1) (values Wait);
  inputs = values Inputs;
}

-- an environment that has nothing but 0
abbrev pub no_values : Environment
no_values = with_lists (λ series. [])

-- with values behind those of a list
abbrev pub with_values : Series → List ℕ → Environment → Environment
with_values Inputs values env = record env { inputs = env.inputs ++ values }
with_values Line values env = record env { line = env.line ++ map (λ value. value == 1) values }
with_values Noise values env = record env { noise = env.noise ++ values }
with_values Wait values env = record env { wait = env.wait ++ map (λ value. value == 1) values }

-- with another value at a number of a list
abbrev pub with_value : Series → (number value : ℕ) → Environment → Environment
with_value Inputs number value env = record env { inputs = slice_set env.inputs number value }
with_value Line number value env = record env { line = slice_set env.line number (value == 1) }
with_value Noise number value env = record env { noise = slice_set env.noise number value }
with_value Wait number value env = record env { wait = slice_set env.wait number (value == 1) }

-- how far a run has come in a list: the input words go by their number, and the others by clock
abbrev pub place_in : Series → Clock → ℕ
place_in Inputs place = place.taken
place_in other place = place.clocks

-- an environment is what its lists make
abbrev pub ListsAreAll : Type 0
ListsAreAll = (env : Environment) → with_lists (values_of env) ≡ env

-- what is left of an environment is what is left of each list
abbrev pub RestsAreOfLists : Type 0
RestsAreOfLists = (env : Environment) (place : Clock) (series : Series)
    → values_of (rest_at env place) series ≡ drop (place_in series place) (values_of env series)
