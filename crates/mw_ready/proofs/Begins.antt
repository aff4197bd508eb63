-- Starts without their waits.
use Rattle.std.proofs.Common.{◌≡◌, ℕ, ◌<◌, ◌^◌, List, [], refl}
use Rattle.std.specs.Prelude.{slice_index}
use Rattle.mw_board.specs.declared.parts.BoardParts.{BoardParts}
use Rattle.mw_cycle.specs.declared.series.Series.{Series}
use Rattle.mw_cycle.specs.declared.series.Series.TheVariants.{Inputs, Line, Noise, Wait}
use Rattle.mw_cycle.specs.Series.{width_of}
use Rattle.mw_cycle.specs.SteadySeries.{Series as SteadySeries, width_of as steady_width_of}
use Rattle.mw_cycle.specs.SteadySeries.{Inputs as SteadyInputs, Line as SteadyLine, Noise as SteadyNoise}
use Rattle.mw_cycle.specs.SteadyEnvironment.{Environment as SteadyEnvironment, IsEnvironment as IsSteadyEnvironment}
use Rattle.mw_cycle.specs.SteadyEnvironment.{values_of as steady_values_of}
use Rattle.mw_cycle.specs.State.{BoardState}
use Rattle.mw_cycle.proofs.Lists.{bits_below}
use Rattle.mw_rel.specs.Job.{Job}
use Rattle.mw_rel.specs.SteadyStart.{Start as SteadyStart}
use Rattle.mw_cycle.specs.Environment.{Environment, IsEnvironment, values_of}
use Rattle.mw_ready.specs.Thinned.{thinned_start, always_ready}
use Rattle.mw_cycle.specs.Thinned.{never_waiting, thinned, was_wait}
use Rattle.mw_ready.specs.StartLaws.{ThinnedAreStarts, StartsWithoutWaitsAreStarts}
use Rattle.mw_cycle.proofs.Entries.{left_below}
use Rattle.mw_cycle.proofs.NeverWaiting.{nothing_is_thinned}

-- what is left of an environment is one
pub thinned_below : (board : BoardParts) (store : List ℕ) (env : Environment) (start : BoardState)
    → IsEnvironment board env → (series : SteadySeries) (i : ℕ)
    → slice_index (steady_values_of (thinned board store env start) series) i < 2 ^ steady_width_of board.width series
thinned_below board store env start is SteadyInputs i = is.values Inputs i
thinned_below board store env start is SteadyLine i = bits_below (thinned board store env start).line i
thinned_below board store env start is SteadyNoise i =
    left_below (was_wait board store env start) 0 env.noise (2 ^ 14) (is.values Noise) i

pub thinned_are_starts : ThinnedAreStarts
thinned_are_starts job start is = record {
  boundary = is.boundary;
  related = is.related;
  env = record { values = thinned_below job.board job.store start.env start.pair.board is.env };
}

pub itself : (job : Job) (start : SteadyStart) → thinned_start job (always_ready start) ≡ start
itself job start = rw (nothing_is_thinned job.board job.store start.env start.pair.board) refl

-- an environment without waits is one
ready_below : (board : BoardParts) (env : SteadyEnvironment) → IsSteadyEnvironment board env
    → (series : Series) (i : ℕ) → slice_index (values_of (never_waiting env) series) i < 2 ^ width_of board.width series
ready_below board env is Inputs i = is.values SteadyInputs i
ready_below board env is Line i = is.values SteadyLine i
ready_below board env is Noise i = is.values SteadyNoise i
ready_below board env is Wait i = bits_below [] i

pub starts_without_waits_are_starts : StartsWithoutWaitsAreStarts
starts_without_waits_are_starts job start is = record {
  begins = record {
    boundary = is.boundary;
    related = is.related;
    env = record { values = ready_below job.board start.env is.env };
  };
  itself = itself job start;
}
