-- Where no start differs, boundaries come within the sum of the bounds met.
use Rattle.std.proofs.Common.{◌≡◌, ℕ, zero, suc, ◌+◌, ◌≤◌, subst, add-one, arith}
use Rattle.mw_cycle.specs.Boundary.{IsBoundary}
use Rattle.mw_rel.specs.SteadyCertified.{at_cycle, IsKept}
use Rattle.mw_rel.specs.Job.{Job}
use Rattle.mw_rel.specs.SteadyLaws.{IsSumOfBounds, ComesInTime, BoundariesComeInTime}
use Rattle.mw_rel.specs.Start.{addresses_of}
use Rattle.mw_rel.specs.SteadyStart.{Start}
use Rattle.mw_rel.proofs.Boundaries.{boundary_once}
use Rattle.mw_rel.proofs.Law.{kept_each}

-- boundary k + 1 comes in time where boundary k does
next_in_time : (job : Job) (start : Start) (k : ℕ) → IsKept job start k → IsKept job start (k + 1)
    → ComesInTime job start k
    → ComesInTime job start (k + 1)
next_in_time job start k kept next before =
    let same : before.cycle ≡ kept.cycle =
    boundary_once (addresses_of job) (at_cycle job start) k before.cycle kept.cycle before.comes kept.comes in
    let bound : next.cycle ≤ kept.cycle + kept.reached.bound =
    next.bounds k kept.cycle next.cycle kept.reached (omega arith) kept.comes next.comes kept.there in
    record {
      cycle = next.cycle;
      sum = before.sum + kept.reached.bound;
      comes = next.comes;
      bounds = IsSumOfBounds.more k before.sum kept.cycle kept.reached before.bounds kept.comes kept.there;
      within = omega (arith, bound, before.within, same);
    }

pub boundaries_come_in_time : BoundariesComeInTime
boundaries_come_in_time job is none start begins zero =
    record { cycle = 0; sum = 0; comes = IsBoundary.first; bounds = IsSumOfBounds.nothing; within = omega arith }
boundaries_come_in_time job is none start begins (suc k) =
    subst (ComesInTime job start) (add-one k)
    (next_in_time job start k (kept_each job is none start begins k) (kept_each job is none start begins (k + 1))
    (boundaries_come_in_time job is none start begins k))
