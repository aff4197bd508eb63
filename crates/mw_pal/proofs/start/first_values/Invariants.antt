use Rattle.std.proofs.Common.{◌≡◌, map}
use Rattle.std.specs.Prelude.{filter}
use Rattle.mw_cycle.specs.Boundary.{numbers}
use Rattle.mw_rel.specs.Free.{is_free, numbered}
use Rattle.mw_rel.specs.Views.{job_of}
use Rattle.mw_pal.specs.Talk.{first_value}
use Rattle.mw_pal.proofs.start.first_values.Given as goal

abbrev pub invariant-loop-number : goal.invariant-loop-number
invariant-loop-number l = l.values.items
    ≡ map (first_value (job_of l.job)) (filter (is_free (numbered (job_of l.job) 0)) (numbers 0 l.number))
