use Rattle.std.proofs.Common.{◌≡◌, map, slice_index}
use Rattle.std.specs.Prelude.{filter}
use Rattle.mw_cycle.specs.Boundary.{numbers}
use Rattle.mw_rel.specs.Free.{is_free, numbered}
use Rattle.mw_rel.specs.Views.{job_of}
use Rattle.mw_replay.proofs.elements.free_values.Given as goal

abbrev pub invariant-loop-number : goal.invariant-loop-number
invariant-loop-number l = l.chosen.items
    ≡ map (slice_index l.values) (filter (is_free (numbered (job_of l.job) l.boundary)) (numbers 0 l.number))
