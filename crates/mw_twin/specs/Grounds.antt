-- Which assignments stand for which twin starts without waits.
use Rattle.std.specs.Prelude.{◌≡◌, []}
use Rattle.mw_revise.specs.declared.keep.Block.{Block}
use Rattle.mw_revise.specs.declared.programs.Side.{Side}
use Rattle.mw_revise.specs.Revision.{Revision}
use Rattle.mw_revise.specs.TwinBudgets.{IsTwinStartAt}
use Rattle.mw_revise.specs.TwinStart.{TwinStart, start_on}
use Rattle.mw_space.specs.Entries.{but_waits}
use Rattle.mw_symboard.specs.Laws.{Course}
use Rattle.mw_symboard.specs.Paths.{IsOneOf}
use Rattle.mw_term.specs.Assigned.{Given}
use Rattle.mw_twin.specs.Origins.{Ground, origin_on}

-- the run of a program's board from a twin start
abbrev pub course_on : Side → TwinStart → Course
course_on side twins = record {
  image = (start_on side twins).state.memory;
  env = but_waits (start_on side twins).env;
  start = (start_on side twins).state;
}

-- Under an assignment, terms and what was read so far have the values of a twin start at a block, in which no clock waits.
pub record StandsForTwins (revision : Revision) (block : Block) (g : Ground) (given : Given) (twins : TwinStart)
    : Type 0 where
  pub starts : IsTwinStartAt revision block twins
  pub unwaiting : (side : Side) → (start_on side twins).env.wait ≡ []
  pub boards : (side : Side)
      → IsOneOf revision.board g.table g.words g.memory (origin_on side block g) given (course_on side twins)

-- each assignment is that of a twin start without waits at the block, and each of these has an assignment
pub record HaveTwinStarts (revision : Revision) (block : Block) (g : Ground) : Type 0 where
  pub there : (given : Given) → (twins : TwinStart) × StandsForTwins revision block g given twins
  pub reached : (twins : TwinStart) → IsTwinStartAt revision block twins
      → ((side : Side) → (start_on side twins).env.wait ≡ [])
      → (given : Given) × StandsForTwins revision block g given twins
