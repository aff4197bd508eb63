-- The outside of a run that never waits, since its memory is always ready.
use Rattle.std.specs.Prelude.{ℕ, ◌<◌, ◌^◌, List, [], Bool, false, ◌==◌, drop, map}
use Rattle.std.specs.Prelude.{slice_index, slice_index_or}
use Rattle.mw_base.specs.Words.{num}
use Rattle.mw_board.specs.declared.parts.BoardParts.{BoardParts}
use Rattle.mw_cycle.specs.declared.state.CycleIn.{CycleIn}
use Rattle.mw_cycle.specs.SteadySeries.{Series, Inputs, Line, Noise, width_of}

-- the interrupt bit per cycle, the noise word per cycle, and the input words by number taken; past its end each list
-- is 0
pub record Environment : Type 0 where
  pub line : List Bool
  pub noise : List ℕ
  pub inputs : List ℕ

-- how far a run has come: how many cycles were made, each of one clock, and how many input words were taken
pub record Clock : Type 0 where
  pub cycle : ℕ
  pub taken : ℕ

-- a run's place before its first cycle
abbrev pub at_start : Clock
at_start = record { cycle = 0; taken = 0 }

-- what the environment has for the cycle at a place
abbrev pub given_at : Environment → Clock → CycleIn
given_at env place = record {
  noise = slice_index env.noise place.cycle;
  line = slice_index_or env.line place.cycle false;
  input = slice_index env.inputs place.taken;
}

-- what is left of the environment at a place
abbrev pub rest_at : Environment → Clock → Environment
rest_at env place = record {
  line = drop place.cycle env.line;
  noise = drop place.cycle env.noise;
  inputs = drop place.taken env.inputs;
}

-- ---- list by list

-- the values of a list, as numbers
abbrev pub values_of : Environment → Series → List ℕ
values_of env Inputs = env.inputs
values_of env Line = map num env.line
values_of env Noise = env.noise

-- each value of a list has at most the list's bits
pub record IsEnvironment (board : BoardParts) (env : Environment) : Type 0 where
  pub values : (series : Series) (i : ℕ) → slice_index (values_of env series) i < 2 ^ width_of board.width series

-- the environment whose lists have these values
abbrev pub with_lists : (Series → List ℕ) → Environment
with_lists values = record {
  line = map (λ value. value == 1) (values Line);
  noise = values Noise;
  inputs = values Inputs;
}

-- an environment that has nothing but 0
abbrev pub no_values : Environment
no_values = with_lists (λ series. [])

-- how far a run has come in a list: the input words go by their number, and the others by cycle
abbrev pub place_in : Series → Clock → ℕ
place_in Inputs place = place.taken
place_in other place = place.cycle
