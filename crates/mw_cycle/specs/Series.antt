-- The lists of an environment: what texts call them, how wide their values are, and the variables that stand for these.
use Rattle.std.specs.Prelude.{ℕ, List, [], ◌∷◌, codes, Option, Some, None}
use Rattle.std.specs.List.{find}
use Rattle.std.specs.Str.{bytes_eq}
use Rattle.mw_term.specs.declared.kinds.WordKind.{WordKind}
use Rattle.mw_term.specs.declared.kinds.WordKind.TheVariants as kinds
use Rattle.mw_term.specs.declared.side.Side.{Side}
use Rattle.mw_term.specs.declared.side.Side.TheVariants.{Board, Machine}
use Rattle.mw_cycle.specs.declared.series.Series.{Series}
use Rattle.mw_cycle.specs.declared.series.Series.TheVariants.{Inputs, Line, Noise, Wait}

-- all, in the order of texts: the input words, the interrupt line, the undefined bits and the wait bits
abbrev pub all_series : List Series
all_series = Inputs ∷ Line ∷ Noise ∷ Wait ∷ []

-- what texts call a list
abbrev pub keyword_of : Series → List ℕ
keyword_of Inputs = codes "inputs"
keyword_of Line = codes "line"
keyword_of Noise = codes "noise"
keyword_of Wait = codes "wait"

-- how many bits a value of it has, where an input word has so many
abbrev pub width_of : ℕ → Series → ℕ
width_of width Inputs = width
width_of width Line = 1
width_of width Noise = 14
width_of width Wait = 1

-- the list that texts call so
unfoldable pub series_named : List ℕ → Option Series
series_named name = find (λ series. bytes_eq name (keyword_of series)) all_series

-- The list and the number of the value that a variable stands for, where it is one of the environment of the board of a
-- side. A wait bit has no variable, since a case is one of an environment without waits.
abbrev pub series_of_kind : Side → WordKind → Option (Series × ℕ)
series_of_kind side (kinds.Input n) = Some (Inputs, n)
series_of_kind Board (kinds.Line n) = Some (Line, n)
series_of_kind Board (kinds.Noise n) = Some (Noise, n)
series_of_kind Machine (kinds.BesideLine n) = Some (Line, n)
series_of_kind Machine (kinds.BesideNoise n) = Some (Noise, n)
series_of_kind side other = None
