use Rattle.std.proofs.Common.{slice_index, refl, ◌∙◌}
use Rattle.mw_rel.specs.Free.{is_free, numbered}
use Rattle.mw_rel.specs.Views.{job_of}
use Rattle.mw_replay.proofs.Settables.{chosen_more}
use Rattle.mw_replay.proofs.elements.free_values.Goals as goal

pub loop-number-preserved : goal.loop-number-preserved
loop-number-preserved c =
    let free = is_free (numbered (job_of c.args.job.now) c.args.boundary) in
    c.in_ok-push_free.ensures
    ∙ rw c.loop-number.invariant
    (chosen_more (slice_index c.args.values.now) free c.loop-number.number (free c.loop-number.number) refl)
