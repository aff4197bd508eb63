-- What it is that an old and a new program agree.
use Rattle.std.specs.Prelude.{◌≡◌, ℕ, ◌+◌, ◌<◌, ◌≤◌, Some}
use Rattle.mw_revise.specs.declared.keep.Block.{Block}
use Rattle.mw_revise.specs.declared.programs.Side.{Side}
use Rattle.mw_revise.specs.declared.programs.Side.TheVariants.{Old, New}
use Rattle.mw_revise.specs.Revision.{Revision, block_at, IsBlockOf}
use Rattle.mw_revise.specs.Together.{StandTogether}
use Rattle.mw_revise.specs.TwinStart.{TwinStart, AreTwins, IsBoundaryOn, address_after, line_on, run_on}

-- each of the first k segments has the same line in its first cycle in both runs
abbrev pub ShareLines : Revision → TwinStart → ℕ → Type 0
ShareLines revision twins k = (j c d : ℕ) → j < k → IsBoundaryOn Old revision twins j c
    → IsBoundaryOn New revision twins j d → line_on Old revision twins c ≡ line_on New revision twins d

-- each of the first k segments of a program takes at most the bound of the boundary at which it begins
abbrev pub KeepsBounds : Side → Revision → TwinStart → ℕ → Type 0
KeepsBounds side revision twins k = (j c d : ℕ) (from : Block) → j < k → IsBoundaryOn side revision twins j c
    → IsBoundaryOn side revision twins (j + 1) d
    → block_at side revision (address_after side revision twins c) ≡ Some from → d ≤ c + from.bound

-- Boundary k comes in both runs; each segment up to it keeps its bound; both runs are at the same boundary of the
-- revision, and stand together there; and the events before it are equal.
pub record AgreeAt (revision : Revision) (twins : TwinStart) (k : ℕ) : Type 0 where
  pub old_cycle : ℕ
  pub new_cycle : ℕ
  pub reached : Block
  pub old_comes : IsBoundaryOn Old revision twins k old_cycle
  pub new_comes : IsBoundaryOn New revision twins k new_cycle
  pub bounds : (side : Side) → KeepsBounds side revision twins k
  pub there : IsBlockOf revision reached
  pub together : StandTogether revision.board reached (run_on Old revision twins old_cycle).state
      (run_on New revision twins new_cycle).state
  pub events : (run_on Old revision twins old_cycle).events ≡ (run_on New revision twins new_cycle).events

-- from each boundary, each two states that stand together there and each two environments with equal inputs, the
-- programs agree at boundary k, for each k such that their first k segments share their lines
abbrev pub Agreement : Revision → Type 0
Agreement revision = (twins : TwinStart) → AreTwins revision twins → (k : ℕ) → ShareLines revision twins k
    → AgreeAt revision twins k
