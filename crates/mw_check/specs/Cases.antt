-- How many cases a boundary has, and how many cycles its longest segment.
use Rattle.std.specs.Prelude.{◌≡◌, ℕ, ◌≤◌, List, length}
use Rattle.mw_term.specs.declared.decided.Decided.{Decided}
use Rattle.mw_rel.specs.Case.{IsStartAt, cycles_of}
use Rattle.mw_rel.specs.Job.{Job}
use Rattle.mw_rel.specs.Start.{Start}
use Rattle.mw_fork.specs.Walks.{AreAllCases}

-- a boundary has so many feasible cases
pub record HasCases (job : Job) (number count : ℕ) : Type 0 where
  pub cases : List (List Decided)
  pub are : AreAllCases job number cases
  pub counted : length cases ≡ count

-- the longest segment from a boundary has so many cycles
pub record HasLongest (job : Job) (number cycles : ℕ) : Type 0 where
  pub start : Start
  pub starts : IsStartAt job number start
  pub has : cycles_of job start ≡ cycles
  pub most : (other : Start) → IsStartAt job number other → cycles_of job other ≤ cycles
