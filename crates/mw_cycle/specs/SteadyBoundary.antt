-- The first segment of a run that never waits.
use Rattle.std.specs.Prelude.{ℕ, List, Option, option_map}
use Rattle.mw_board.specs.declared.parts.BoardParts.{BoardParts}
use Rattle.mw_cycle.specs.State.{BoardState}
use Rattle.mw_cycle.specs.Boundary.{first_boundary}
use Rattle.mw_cycle.specs.SteadyEnvironment.{Environment}
use Rattle.mw_cycle.specs.SteadyRun.{BoardRun, run_of}

-- the first segment of a run, where it keeps its bound; nothing where it is late
unfoldable pub first_segment : BoardParts → List ℕ → Environment → BoardState → List ℕ → ℕ → Option BoardRun
first_segment board store env start addresses limit =
    option_map (run_of board store env start)
    (first_boundary addresses (λ n. (run_of board store env start n).state.at) limit)
