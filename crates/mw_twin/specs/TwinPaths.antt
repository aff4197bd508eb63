-- Paths of decided bits, and the cases of the twin starts that take them.
use Rattle.std.specs.Prelude.{◌≡◌, ℕ, ◌∷◌, ◌++◌, List, [], length, Bool, true, Some, slice_get, ◌==◌}
use Rattle.mw_cycle.specs.Decided.{decided}
use Rattle.mw_rel.specs.TreePaths.{path_along}
use Rattle.mw_revise.specs.declared.keep.Block.{Block}
use Rattle.mw_revise.specs.Revision.{Revision}
use Rattle.mw_revise.specs.TwinBudgets.{IsTwinPrefix}
use Rattle.mw_revise.specs.TwinCase.{twin_case}
use Rattle.mw_revise.specs.TwinStart.{TwinStart}
use Rattle.mw_revise.specs.TwinWords.{twin_tree}
use Rattle.mw_symboard.specs.Paths.{IsBy}
use Rattle.mw_symboard.specs.Seen.{AreFirst}
use Rattle.mw_term.specs.Assigned.{Given}
use Rattle.mw_term.specs.Cofactors.{Agree}
use Rattle.mw_term.specs.declared.decided.Decided.{Decided}
use Rattle.mw_term.specs.declared.decided.DecidedKind.{DecidedKind}
use Rattle.mw_term.specs.Functions.{Function}
use Rattle.mw_term.specs.Values.{term_value}
use Rattle.mw_twin.specs.Grounds.{StandsForTwins}
use Rattle.mw_twin.specs.Origins.{Ground, IsGround}

-- where a path is true, this holds of the twin start
abbrev pub OnPath : Revision → Block → Ground → (path : Function) → (TwinStart → Type 0) → Type 0
OnPath revision block g path Holds =
    (given : Given) (twins : TwinStart) → StandsForTwins revision block g given twins → path given ≡ true → Holds twins

-- a path of these decided bits: it is true exactly where they are the first of the twin start's case
pub record IsTwinPath (revision : Revision) (block : Block) (g : Ground) (bits : List Decided) (path : Function)
    : Type 0 where
  pub first : OnPath revision block g path (λ twins. AreFirst bits (twin_case revision twins))
  pub only : (given : Given) (twins : TwinStart) → StandsForTwins revision block g given twins
      → AreFirst bits (twin_case revision twins) → path given ≡ true

-- where the path is true, the next decided bit of the twin start's case is of this kind, and has the value of this term
abbrev pub IsNextOfTwins : Revision → Block → Ground → (bits : List Decided) → (path : Function) → DecidedKind
    → (term : ℕ) → Type 0
IsNextOfTwins revision block g bits path kind term =
    (given : Given) (twins : TwinStart) → StandsForTwins revision block g given twins → path given ≡ true
    → slice_get (twin_case revision twins) (length bits) ≡ Some (decided kind (term_value g.table given term == 1))

-- where the path is true, these are all bits of the twin start's case
abbrev pub HasTwinCase : Revision → Block → Ground → (path : Function) → (bits : List Decided) → Type 0
HasTwinCase revision block g path bits = OnPath revision block g path (λ twins. twin_case revision twins ≡ bits)

-- A course from a block is on its way through a twin case: its path is that of the bits that it has met, and that of the
-- word list; and a case begins with them.
pub record IsOnWay (revision : Revision) (block : Block) (g : Ground) (bits : List Decided) (path : Function)
    : Type 0 where
  pub stands : IsGround revision.board block g
  pub written : Agree path (path_along (twin_tree revision block) bits)
  pub cases : IsTwinPath revision block g bits path
  pub feasible : IsTwinPrefix revision block bits

-- A bit was decided: the course is on its way with one more, along the path by it.
pub record HasDecided (revision : Revision) (block : Block) (g : Ground) (bits : List Decided) (path next : Function)
    (kind : DecidedKind) (term : ℕ) (value : Bool) : Type 0 where
  pub on : IsOnWay revision block g (bits ++ decided kind value ∷ []) next
  pub by : IsBy g.table term value path next
