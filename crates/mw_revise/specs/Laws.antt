-- Laws of twin starts, and of when two programs agree.
use Rattle.std.specs.Prelude.{◌≡◌, ◌≢◌, ◌⊎◌, ◌↔◌, List, [], None, Some, false}
use Rattle.mw_cycle.specs.Run.{BoardRun}
use Rattle.mw_rel.specs.Case.{IsBefore}
use Rattle.mw_revise.specs.declared.difference.TwinDifference.{TwinDifference}
use Rattle.mw_revise.specs.declared.keep.Block.{Block}
use Rattle.mw_revise.specs.declared.programs.Side.{Side}
use Rattle.mw_revise.specs.declared.programs.Side.TheVariants.{Old, New}
use Rattle.mw_revise.specs.Agreement.{Agreement}
use Rattle.mw_revise.specs.Revision.{Revision, IsRevision, IsBlockOf}
use Rattle.mw_revise.specs.Together.{StandTogether}
use Rattle.mw_revise.specs.TwinBudgets.{IsTwinCase, IsTwinStartAt}
use Rattle.mw_revise.specs.TwinCase.{cycles_on, is_late_on, twin_case}
use Rattle.mw_revise.specs.TwinDiffers.{TwinDiffers, segment_on, twin_difference}
use Rattle.mw_revise.specs.TwinStart.{TwinStart, IsTwinStart, twins_without_waits}
use Rattle.mw_term.specs.declared.decided.Decided.{Decided}

-- Both first segments keep the bound; they end at the same boundary of the revision, where both states stand together;
-- and they have the same events.
pub record AreSame (revision : Revision) (twins : TwinStart) : Type 0 where
  pub old_run : BoardRun
  pub new_run : BoardRun
  pub reached : Block
  pub old_segment : segment_on Old revision twins ≡ Some old_run
  pub new_segment : segment_on New revision twins ≡ Some new_run
  pub there : IsBlockOf revision reached
  pub together : StandTogether revision.board reached old_run.state new_run.state
  pub events : old_run.events ≡ new_run.events

-- a twin start shows no difference exactly where it is the same on both sides
abbrev pub SameShowNothing : Type 0
SameShowNothing = (revision : Revision) (twins : TwinStart) → IsRevision revision → IsTwinStart revision twins
    → (twin_difference revision twins ≡ None) ↔ AreSame revision twins

-- no twin start differs
abbrev pub NoTwinDiffers : Revision → Type 0
NoTwinDiffers revision = (twins : TwinStart) (difference : TwinDifference) → ¬ TwinDiffers revision twins difference

-- two programs agree exactly where no twin start differs
abbrev pub AgreeWhereNoneDiffers : Type 0
AgreeWhereNoneDiffers = (revision : Revision) → IsRevision revision → Agreement revision ↔ NoTwinDiffers revision

-- ---- waits

-- without its waits a twin start is again a twin start
abbrev pub ThinnedAreTwinStarts : Type 0
ThinnedAreTwinStarts = (revision : Revision) (twins : TwinStart) → IsTwinStart revision twins
    → IsTwinStart revision (twins_without_waits revision twins)

-- twins show the difference, if any, that they show without their waits
abbrev pub TwinDifferencesAreThinned : Type 0
TwinDifferencesAreThinned = (revision : Revision) (twins : TwinStart)
    → twin_difference revision twins ≡ twin_difference revision (twins_without_waits revision twins)

-- no twin start without waits differs
abbrev pub NoTwinDiffersWithoutWaits : Revision → Type 0
NoTwinDiffersWithoutWaits revision = (twins : TwinStart) (difference : TwinDifference)
    → TwinDiffers revision twins difference → twins.before.env.wait ≡ [] → twins.after.env.wait ≡ [] → ⊥

-- no twin start differs exactly where none without waits does
abbrev pub NoneDiffersAlike : Type 0
NoneDiffersAlike = (revision : Revision) → NoTwinDiffersWithoutWaits revision ↔ NoTwinDiffers revision

-- two programs agree exactly where no twin start without waits differs
abbrev pub AgreeWithoutWaits : Type 0
AgreeWithoutWaits = (revision : Revision) → IsRevision revision
    → Agreement revision ↔ NoTwinDiffersWithoutWaits revision

-- twins have as many cycles on each side, are late there, and decide the same bits as without their waits
pub record HaveCaseOfThinned (revision : Revision) (twins : TwinStart) : Type 0 where
  pub cycles : (side : Side) → cycles_on side revision twins
      ≡ cycles_on side revision (twins_without_waits revision twins)
  pub late : (side : Side) → is_late_on side revision twins
      ≡ is_late_on side revision (twins_without_waits revision twins)
  pub bits : twin_case revision twins ≡ twin_case revision (twins_without_waits revision twins)

-- so do all
abbrev pub TwinCasesAreThinned : Type 0
TwinCasesAreThinned = (revision : Revision) (twins : TwinStart) → HaveCaseOfThinned revision twins

-- ---- the cases of a block

-- of two cases that aren't one, one comes before the other
abbrev pub OneTwinCaseIsFirst : Type 0
OneTwinCaseIsFirst = (revision : Revision) (block : Block) (first second : List Decided) → IsRevision revision
    → IsBlockOf revision block → IsTwinCase revision block first → IsTwinCase revision block second → first ≢ second
    → IsBefore first second ⊎ IsBefore second first

-- two segments of a program have as many cycles, and are late alike
pub record EndAlike (side : Side) (revision : Revision) (one other : TwinStart) : Type 0 where
  pub cycles : cycles_on side revision one ≡ cycles_on side revision other
  pub late : is_late_on side revision one ≡ is_late_on side revision other

-- twin starts at a block with one case have old segments that end alike and, where these aren't late, new ones too
abbrev pub TwinCasesHaveOneEnd : Type 0
TwinCasesHaveOneEnd = (revision : Revision) (block : Block) (one other : TwinStart) → IsRevision revision
    → IsTwinStartAt revision block one → IsTwinStartAt revision block other
    → twin_case revision one ≡ twin_case revision other
    → EndAlike Old revision one other
    × (is_late_on Old revision one ≡ false → EndAlike New revision one other)
