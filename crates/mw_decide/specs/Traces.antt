-- What goes along a path, and what waits, over what all have made.
use Rattle.std.specs.Prelude.{ℕ, List}
use Rattle.mw_decide.specs.declared.traced.Traced.{Traced}
use Rattle.mw_decide.specs.declared.traced.Waiting.{Waiting}
use Rattle.mw_path.specs.declared.paths.Paths.{Paths}

-- these paths, where what was written stands at these places
abbrev pub over_places : Paths → List ℕ → Paths
over_places paths places = record { dds = paths.dds; shared = paths.shared; places = places; path = paths.path }

-- the paths of one that waits, over what was made
abbrev pub paths_over : {C : Type 0} → Paths → Waiting C → Paths
paths_over made w = record { dds = made.dds; shared = made.shared; places = w.places; path = w.path }

-- and what goes on along them
abbrev pub traced_over : {C : Type 0} → Paths → Waiting C → Traced C
traced_over made w = record { course = w.course; paths = paths_over made w }
