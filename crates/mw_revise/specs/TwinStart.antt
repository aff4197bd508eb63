-- Runs of both programs from states that stand together.
use Rattle.std.specs.Prelude.{◌≡◌, ℕ, List, Bool}
use Rattle.mw_board.specs.declared.parts.BoardParts.{BoardParts}
use Rattle.mw_cycle.specs.Boundary.{IsBoundary}
use Rattle.mw_cycle.specs.State.{BoardState}
use Rattle.mw_cycle.specs.Environment.{Environment, IsEnvironment}
use Rattle.mw_cycle.specs.Run.{BoardRun, run_of, line_of_cycle}
use Rattle.mw_cycle.specs.Thinned.{never_waiting, thinned}
use Rattle.mw_revise.specs.declared.keep.Block.{Block}
use Rattle.mw_revise.specs.declared.programs.Side.{Side}
use Rattle.mw_revise.specs.declared.programs.Side.TheVariants.{Old, New}
use Rattle.mw_revise.specs.Revision.{Revision, store_of, addresses_of, IsBlockOf}
use Rattle.mw_revise.specs.Together.{StandTogether}

-- where the run of a program begins: a state, and an environment
pub record ProgramStart : Type 0 where
  pub state : BoardState
  pub env : Environment

-- a boundary, and where the run of each program begins
pub record TwinStart : Type 0 where
  pub block : Block
  pub before : ProgramStart
  pub after : ProgramStart

-- where the run of one of both programs begins
abbrev pub start_on : Side → TwinStart → ProgramStart
start_on Old twins = twins.before
start_on New twins = twins.after

-- its run of n cycles
abbrev pub run_on : Side → Revision → TwinStart → ℕ → BoardRun
run_on side revision twins n =
    run_of revision.board (store_of side revision) (start_on side twins).env (start_on side twins).state n

-- the control address after n cycles of it
abbrev pub address_after : Side → Revision → TwinStart → ℕ → ℕ
address_after side revision twins n = (run_on side revision twins n).state.at

-- the line of the clock that makes cycle n of it
abbrev pub line_on : Side → Revision → TwinStart → ℕ → Bool
line_on side revision twins n =
    line_of_cycle revision.board (store_of side revision) (start_on side twins).env (start_on side twins).state n

-- boundary k of it is at cycle c
abbrev pub IsBoundaryOn : Side → Revision → TwinStart → ℕ → ℕ → Type 0
IsBoundaryOn side revision twins k c =
    IsBoundary (addresses_of side revision) (address_after side revision twins) k c

-- a boundary of the revision, two states that stand together there, and two environments with equal inputs
pub record AreTwins (revision : Revision) (twins : TwinStart) : Type 0 where
  pub block : IsBlockOf revision twins.block
  pub together : StandTogether revision.board twins.block twins.before.state twins.after.state
  pub environments : (side : Side) → IsEnvironment revision.board (start_on side twins).env
  pub inputs : twins.before.env.inputs ≡ twins.after.env.inputs

-- a twin start: twins whose first segments have the same line in their first cycle
pub record IsTwinStart (revision : Revision) (twins : TwinStart) : Type 0 where
  pub are : AreTwins revision twins
  pub line : line_on Old revision twins 0 ≡ line_on New revision twins 0

-- ---- without waits

-- where the run of a program begins, without its waits: its environment lacks the clocks that were waits
abbrev pub start_without_waits : BoardParts → List ℕ → ProgramStart → ProgramStart
start_without_waits board store start =
    record { state = start.state; env = never_waiting (thinned board store start.env start.state) }

-- twins without their waits
abbrev pub twins_without_waits : Revision → TwinStart → TwinStart
twins_without_waits revision twins = record {
  block = twins.block;
  before = start_without_waits revision.board revision.before twins.before;
  after = start_without_waits revision.board revision.after twins.after;
}
