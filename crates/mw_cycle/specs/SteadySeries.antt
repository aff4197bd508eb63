-- The lists of an environment without waits, and the variables that stand for their values.
use Rattle.std.specs.Prelude.{ℕ, Bool, true, false, Option, Some, None}
use Rattle.mw_term.specs.declared.kinds.WordKind.{WordKind}
use Rattle.mw_term.specs.declared.kinds.WordKind.TheVariants as kinds
use Rattle.mw_term.specs.declared.side.Side.{Side}
use Rattle.mw_term.specs.declared.side.Side.TheVariants.{Board, Machine}
use Rattle.mw_cycle.specs.declared.series.Series.{Series as AnySeries}
use Rattle.mw_cycle.specs.declared.series.Series.TheVariants as all

-- the input words, the interrupt line and the undefined bits
pub data Series : Type 0 where
  Inputs : Series
  Line : Series
  Noise : Series

-- which of all lists it is
abbrev pub among_all : Series → AnySeries
among_all Inputs = all.Inputs
among_all Line = all.Line
among_all Noise = all.Noise

-- whether a list goes by cycle: all but the input words, which go by their number
abbrev pub goes_by_cycle : Series → Bool
goes_by_cycle Inputs = false
goes_by_cycle other = true

-- how many bits a value of it has, where an input word has so many
abbrev pub width_of : ℕ → Series → ℕ
width_of width Inputs = width
width_of width Line = 1
width_of width Noise = 14

-- The variable of its value with a number, for the board of a side: one that stands beside another has a line and a noise
-- of its own. Both take the same inputs.
abbrev pub kind_of : Side → Series → ℕ → WordKind
kind_of side Inputs n = kinds.Input n
kind_of Board Line n = kinds.Line n
kind_of Board Noise n = kinds.Noise n
kind_of Machine Line n = kinds.BesideLine n
kind_of Machine Noise n = kinds.BesideNoise n

-- the list and the number of the value that a variable stands for, where it is one of the environment of that board
abbrev pub series_of_kind : Side → WordKind → Option (Series × ℕ)
series_of_kind side (kinds.Input n) = Some (Inputs, n)
series_of_kind Board (kinds.Line n) = Some (Line, n)
series_of_kind Board (kinds.Noise n) = Some (Noise, n)
series_of_kind Machine (kinds.BesideLine n) = Some (Line, n)
series_of_kind Machine (kinds.BesideNoise n) = Some (Noise, n)
series_of_kind side other = None
