use Rattle.std.proofs.Common.{◌≡◌, drop, ◌==◌}
use Rattle.std.specs.List.{position_from}
use Rattle.mw_rel.specs.Relation.{Boundary}
use Rattle.mw_rel.specs.Seen.{boundaries_of}
use Rattle.mw_rel.specs.Views.{job_of}
use Rattle.mw_replay.specs.CounterText.{number_at}
use Rattle.mw_replay.proofs.reached.number_at.Given as goal

-- none of the boundaries before is at the address
abbrev pub invariant-loop-n : goal.invariant-loop-n
invariant-loop-n l =
    position_from (λ (boundary : Boundary). boundary.address == l.address) l.n (boundaries_of (drop l.n l.boundaries))
    ≡ number_at (job_of l.job) l.address
