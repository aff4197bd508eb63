-- Laws of counters and replays.
use Rattle.std.specs.Prelude.{◌≡◌, ◌↔◌, ℕ, ◌+◌, ◌≤◌, ◌<◌, List, ◌++◌, length, Some, Ok}
use Rattle.mw_asm.specs.declared.assembled.Label.{Label}
use Rattle.mw_board.specs.declared.parts.BoardParts.{BoardParts}
use Rattle.mw_board.specs.Check.{check_of}
use Rattle.mw_cycle.specs.declared.environment.Clock.{Clock}
use Rattle.mw_cycle.specs.Environment.{Environment, IsEnvironment, given_at, wait_bit}
use Rattle.mw_cycle.specs.State.{BoardState, Fits}
use Rattle.mw_cycle.specs.Trimmed.{shortened, IsTrimmed}
use Rattle.mw_rel.specs.declared.difference.Difference.{Difference}
use Rattle.mw_rel.specs.Differs.{difference_of, DiffersAt}
use Rattle.mw_rel.specs.Job.{Job, IsJob}
use Rattle.mw_rel.specs.Start.{Start, IsStart}
use Rattle.mw_sim.specs.Start.{start_of}
use Rattle.mw_sim.specs.StateText.{state_text}
use Rattle.mw_replay.specs.Counter.{Counter, IsCounter, IsStartOf}
use Rattle.mw_replay.specs.CounterPrinted.{AreShort, environment_lines}
use Rattle.mw_replay.specs.Replay.{IsReached}

-- a counter gives one start at most
abbrev pub StartsAreOne : Type 0
StartsAreOne = (job : Job) (counter : Counter) (start other : Start) → IsJob job
    → counter.boundary < length job.relation.boundaries → IsStartOf job counter start
    → IsStartOf job counter other → start ≡ other

-- what a counter gives is a start of the job
abbrev pub CountersGiveStarts : Type 0
CountersGiveStarts = (job : Job) (counter : Counter) (start : Start) → IsCounter job counter
    → IsStartOf job counter start → IsStart job start

-- a start of a job differs at step k + 1 exactly where k steps show no difference, and the start after them shows this
-- one
abbrev pub StepsDiffer : Type 0
StepsDiffer = (job : Job) (start : Start) (k : ℕ) (difference : Difference) → IsJob job → IsStart job start
    → DiffersAt job start (k + 1) difference
    ↔ ((here : Start) × IsReached job start k here × (difference_of job here ≡ Some difference))

-- where k steps show no difference, a start differs at none of them
abbrev pub NoneDiffersBefore : Type 0
NoneDiffersBefore = (job : Job) (start here : Start) (k step : ℕ) (difference : Difference)
    → IsReached job start k here → step ≤ k → ¬ DiffersAt job start step difference

-- an environment without the zeros at its lists' ends gives the same to each clock, and the same wait bit
abbrev pub ZerosGiveNothing : Type 0
ZerosGiveNothing = (env : Environment) (place : Clock)
    → (given_at (shortened env) place ≡ given_at env place)
    × (wait_bit (shortened env) place ≡ wait_bit env place)

-- a start shows the same without these zeros
abbrev pub ZerosShowNothing : Type 0
ZerosShowNothing = (job : Job) (start : Start)
    → difference_of job (record start { env = shortened start.env }) ≡ difference_of job start

-- an environment with no 0 at a list's end is the same without the zeros there
abbrev pub NothingIsCut : Type 0
NothingIsCut = (env : Environment) → IsTrimmed env → shortened env ≡ env

-- the lines of a state that fits a board and those of an environment are read as both, whatever the labels, but for the
-- zeros at the lists' ends
abbrev pub StartsReadBack : Type 0
StartsReadBack = (board : BoardParts) (labels : List Label) (state : BoardState) (env : Environment)
    → check_of board ≡ Ok tt → Fits board state → IsEnvironment board env → AreShort (shortened env)
    → start_of board labels (state_text board state ++ environment_lines env)
    ≡ Ok (record { state = state; env = shortened env })
