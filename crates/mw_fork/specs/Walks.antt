-- The cases of a boundary in their order, and what a walk over them ends with.
use Rattle.std.specs.Prelude.{◌≡◌, ◌⊎◌, ℕ, ◌≤◌, List, length, All, Bool, true, false, Contains, IsSome}
use Rattle.std.specs.List.{AllPairs}
use Rattle.mw_term.specs.declared.decided.Decided.{Decided}
use Rattle.mw_rel.specs.Case.{IsBefore, IsCase}
use Rattle.mw_rel.specs.CaseWords.{case_words}
use Rattle.mw_rel.specs.Job.{Job}
use Rattle.mw_rel.specs.OverBudget.{AreNodesOver, ArePathsOver}
use Rattle.mw_fork.specs.declared.budget.Budget.{Budget}
use Rattle.mw_fork.specs.Faults.{ForkFault}
use Rattle.mw_explore.specs.declared.fault.Fault.TheVariants.{Over, NoMemory}
use Rattle.mw_fork.specs.declared.fault.Over.TheVariants.{Nodes, Paths}
use Rattle.mw_fork.specs.declared.fork.Case.{Case}
use Rattle.mw_explore.specs.Cases.{At}
use Rattle.mw_course.specs.EndsEach.{EndsEach}
use Rattle.mw_fork.specs.Forks.{Fork, IsForkOf}
use Rattle.mw_fork.specs.Within.{AreDecidedWithin}

-- ---- the cases in their order

-- The first cases of a boundary, in their order: each other case comes after all of these.
pub record AreFirstCases (job : Job) (number : ℕ) (cases : List (List Decided)) : Type 0 where
  pub feasible : All (IsCase job number) cases
  pub in_order : AllPairs IsBefore cases
  pub others : (other : List Decided) → IsCase job number other
      → Contains cases other ⊎ All (λ bits. IsBefore bits other) cases

-- All cases of a boundary, in their order.
pub record AreAllCases (job : Job) (number : ℕ) (cases : List (List Decided)) : Type 0 where
  pub feasible : All (IsCase job number) cases
  pub in_order : AllPairs IsBefore cases
  pub all : (other : List Decided) → IsCase job number other → Contains cases other

-- the first cases of a boundary, with each that comes before these bits
pub record ReachTo (job : Job) (number : ℕ) (cases : List (List Decided)) (bits : List Decided) : Type 0 where
  pub first : AreFirstCases job number cases
  pub before : (other : List Decided) → IsCase job number other → IsBefore other bits → Contains cases other

-- a case of a boundary comes next behind the first ones
pub record IsNextBehind (job : Job) (number : ℕ) (cases : List (List Decided)) (bits : List Decided) : Type 0 where
  pub feasible : IsCase job number bits
  pub behind : All (λ earlier. IsBefore earlier bits) cases
  pub reach : ReachTo job number cases bits

-- ---- a case that is handed over

-- A fork stands at a case that it has given: the segment of each start with it has so many cycles and is late or
-- isn't, and its decided bits are within the fork's budget.
pub record IsAtCase (job : Job) (fork : Fork) (case : Case) : Type 0 where
  pub of : IsForkOf job fork
  pub at : fork.at ≡ At case.prefix
  pub ends : EndsEach job fork.boundary case.prefix case.cycles case.late
  pub within : AreDecidedWithin job fork.boundary fork.budget.nodes case.prefix

-- An operation is over a fork's budget, in the list of the case at which it stands, where that is compared; or memory
-- ran out.
abbrev pub StopsAt : Job → Fork → (compares : Bool) → (bits : List Decided) → ForkFault → Type 0
StopsAt job fork compares bits (Over (Nodes number prefix word j)) =
    (compares ≡ true) × (number ≡ fork.boundary) × (prefix ≡ bits)
    × AreNodesOver job number fork.budget.nodes prefix word j
StopsAt job fork compares bits (Over (Paths number limit)) = ⊥
StopsAt job fork compares bits NoMemory = Unit {0}

-- ---- the end of a walk

-- All cases of a boundary were handed over, in their order, no more than so many; of them this is said.
pub record HasWalked (job : Job) (number paths : ℕ) (said : List (List Decided) → Type 0) : Type 0 where
  pub cases : List (List Decided)
  pub all : AreAllCases job number cases
  pub few : length cases ≤ paths
  pub says : said cases

-- The cases before one were handed over, in their order, and then that one; this is said of them, and this of it.
pub record HasStopped (job : Job) (number : ℕ) (said : List (List Decided) → Type 0) (stopped : List Decided → Type 0)
    : Type 0 where
  pub cases : List (List Decided)
  pub bits : List Decided
  pub next : IsNextBehind job number cases bits
  pub says : said cases
  pub stops : stopped bits

-- An operation is over the nodes, in the list of a prefix; the first cases, with all before that prefix, were handed
-- over. Where these aren't compared, the prefix asks for one more bit, so that the list has no word of a comparison.
pub record IsOverNodes (job : Job) (number nodes : ℕ) (compares : Bool) (said : List (List Decided) → Type 0)
    (prefix : List Decided) (word j : ℕ) : Type 0 where
  pub over : AreNodesOver job number nodes prefix word j
  pub asks : compares ≡ false → IsSome (case_words job number prefix).asked
  pub cases : List (List Decided)
  pub reach : ReachTo job number cases prefix
  pub says : said cases

-- A boundary has more cases than the limit, which is the budget's paths; the first ones, as many as the limit, were
-- handed over.
pub record IsOverPaths (job : Job) (number paths limit : ℕ) (said : List (List Decided) → Type 0) : Type 0 where
  pub limit_is : limit ≡ paths
  pub over : ArePathsOver job number limit
  pub cases : List (List Decided)
  pub first : AreFirstCases job number cases
  pub counted : length cases ≡ limit
  pub says : said cases

-- why a walk goes no further, on which cases are compared or aren't
abbrev pub StopsWalk : Job → (number : ℕ) → Budget → (compares : Bool) → (said : List (List Decided) → Type 0)
    → ForkFault → Type 0
StopsWalk job number budget compares said (Over (Nodes boundary prefix word j)) =
    (boundary ≡ number) × IsOverNodes job number budget.nodes compares said prefix word j
StopsWalk job number budget compares said (Over (Paths boundary limit)) =
    (boundary ≡ number) × IsOverPaths job number budget.paths limit said
StopsWalk job number budget compares said NoMemory = Unit {0}
