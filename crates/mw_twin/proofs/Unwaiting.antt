-- Environments without waits, as ones that might have some.
use Rattle.std.proofs.Common.{◌≡◌, ℕ, ◌<◌, ◌^◌, List, [], ap, ◌∙◌}
use Rattle.std.specs.Prelude.{Bool, slice_index}
use Rattle.mw_board.specs.declared.parts.BoardParts.{BoardParts}
use Rattle.mw_cycle.specs.declared.series.Series.{Series}
use Rattle.mw_cycle.specs.declared.series.Series.TheVariants.{Inputs, Line, Noise, Wait}
use Rattle.mw_cycle.specs.Environment.{Environment, IsEnvironment, values_of}
use Rattle.mw_cycle.specs.Run.{line_of_cycle}
use Rattle.mw_cycle.specs.Series.{width_of}
use Rattle.mw_cycle.specs.State.{BoardState}
use Rattle.mw_cycle.specs.SteadyEnvironment.{Environment as SteadyEnvironment, IsEnvironment as IsSteadyEnvironment}
use Rattle.mw_cycle.specs.SteadyEnvironment.{values_of as steady_values_of}
use Rattle.mw_cycle.specs.SteadySeries.{Series as SteadySeries, width_of as steady_width_of}
use Rattle.mw_cycle.specs.SteadySeries.{Inputs as SteadyInputs, Line as SteadyLine, Noise as SteadyNoise}
use Rattle.mw_cycle.specs.Thinned.{never_waiting, thinned}
use Rattle.mw_cycle.proofs.Lists.{bits_below}
use Rattle.mw_cycle.proofs.NeverWaiting.{nothing_is_thinned}
use Rattle.mw_cycle.proofs.Thinning.{line_thinned}
use Rattle.mw_space.specs.Entries.{but_waits}
use Rattle.mw_twin.proofs.BothEnvironments.{first_line}

-- one without a list of waits is one
never_below : (board : BoardParts) (env : SteadyEnvironment) → IsSteadyEnvironment board env
    → (series : Series) (i : ℕ) → slice_index (values_of (never_waiting env) series) i < 2 ^ width_of board.width series
never_below board env is Inputs i = is.values SteadyInputs i
never_below board env is Line i = is.values SteadyLine i
never_below board env is Noise i = is.values SteadyNoise i
never_below board env is Wait i = bits_below [] i

pub never_waiting_is : (board : BoardParts) (env : SteadyEnvironment) → IsSteadyEnvironment board env
    → IsEnvironment board (never_waiting env)
never_waiting_is board env is = record { values = never_below board env is }

-- and so is one but for that list
but_below : (board : BoardParts) (env : Environment) → IsEnvironment board env → (series : SteadySeries) (i : ℕ)
    → slice_index (steady_values_of (but_waits env) series) i < 2 ^ steady_width_of board.width series
but_below board env is SteadyInputs i = is.values Inputs i
but_below board env is SteadyLine i = is.values Line i
but_below board env is SteadyNoise i = is.values Noise i

pub but_waits_is : (board : BoardParts) (env : Environment) → IsEnvironment board env
    → IsSteadyEnvironment board (but_waits env)
but_waits_is board env is = record { values = but_below board env is }

-- without waits the line in the first cycle is the first one
back : (env : Environment) → env.wait ≡ [] → env ≡ never_waiting (but_waits env)
back env ready =
    ap (λ (wait : List Bool). record { line = env.line; noise = env.noise; wait = wait; inputs = env.inputs }) ready

pub line_is : (board : BoardParts) (store : List ℕ) (env : Environment) (start : BoardState) → env.wait ≡ []
    → line_of_cycle board store env start 0 ≡ first_line (but_waits env)
line_is board store env start ready =
    line_thinned board store env start 0
    ∙ ap (λ (e : Environment). first_line (thinned board store e start)) (back env ready)
    ∙ ap first_line (nothing_is_thinned board store (but_waits env) start)
