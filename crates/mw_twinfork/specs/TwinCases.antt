-- How a course goes through a case of the twin starts at a block.
use Rattle.std.specs.Prelude.{ℕ, List, Option}
use Rattle.mw_decide.specs.declared.fault.Place.{Place}
use Rattle.mw_revise.specs.TwinBudgets.{AreTwinNodesOver, IsTwinCase}
use Rattle.mw_term.specs.declared.decided.Decided.{Decided}
use Rattle.mw_term.specs.declared.decided.DecidedKind.{DecidedKind}
use Rattle.mw_twin.specs.declared.starts.TwinStarts.{TwinStarts}
use Rattle.mw_twin.specs.RevisedBlocks.{RevisedBlock}
use Rattle.mw_twinfork.specs.declared.twins.TwinEnd.{TwinEnd}
use Rattle.mw_twinfork.specs.declared.twins.Twins.{Twins}
use Rattle.mw_twinfork.specs.Ends.{EndsEach}
use Rattle.mw_twinfork.specs.Found.{IsFoundOf}
use Rattle.mw_twinfork.specs.Stops.{IsDecisionOver}
use Rattle.mw_twinfork.specs.Traces as traces
use Rattle.mw_twinfork.specs.Traces.{HasGone, IsAsking, IsGoing, Traced, Waiting}
use Rattle.mw_twinfork.specs.Within.{AreDecidedWithin}

-- the bits are those of a feasible case of the block
abbrev pub IsCaseOf : RevisedBlock → List Decided → Type 0
IsCaseOf s bits = IsTwinCase s.revision s.block bits

-- they are those of a case of the twin starts' block
abbrev pub IsCaseAt : Twins → List Decided → Type 0
IsCaseAt t bits = IsCaseOf t.revised bits

-- each decision of the bits is within the budget
abbrev pub AreWithin : Twins → List Decided → Type 0
AreWithin t bits = AreDecidedWithin t.revised t.nodes bits

-- a course has come along these bits, and waits for none
pub record HasCome (t : Twins) (traced : Traced) (bits : List Decided) : Type 0 where
  pub going : IsGoing t.revised bits traced
  pub within : AreWithin t bits

-- it waits for a bit of this kind behind them, which this term has
pub record Asks (t : Twins) (traced : Traced) (bits : List Decided) (kind : DecidedKind) (term : ℕ) : Type 0 where
  pub asking : IsAsking t.revised bits kind term traced
  pub within : AreWithin t bits

-- it has met all bits of a case, which these are
pub record HasGoneThrough (t : Twins) (traced : Traced) (bits : List Decided) : Type 0 where
  pub gone : HasGone t.revised bits traced
  pub within : AreWithin t bits

-- one that waits has come along these bits, over what a course has made
pub record IsWaitingAt (t : Twins) (made : Traced) (w : Waiting) (bits : List Decided) : Type 0 where
  pub waits : traces.IsWaiting t.revised made.paths bits w
  pub within : AreWithin t bits

-- each twin start with the case ends so
pub record IsEndAt (t : Twins) (bits : List Decided) (end : TwinEnd) : Type 0 where
  pub each : EndsEach t.revised bits end
  pub within : AreWithin t bits

-- the decision behind these bits is over the budget there
abbrev pub IsOverAt : Twins → (bits : List Decided) → Place → Type 0
IsOverAt t bits place = IsDecisionOver t.revised t.nodes bits place.word place.bit

-- this is found, or nothing is, of the twin starts with the case that differ
abbrev pub IsFoundAt : Twins → (bits : List Decided) → Option TwinStarts → Type 0
IsFoundAt t bits found = IsFoundOf t.revised t.nodes bits found

-- an operation of the comparison is over the budget there, in the list of the case
abbrev pub IsComparisonOverAt : Twins → (bits : List Decided) → Place → Type 0
IsComparisonOverAt t bits place =
    AreTwinNodesOver t.revised.revision t.revised.block t.nodes bits place.word place.bit
