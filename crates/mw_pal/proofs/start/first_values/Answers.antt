use Rattle.std.proofs.Common.{refl, ◌∙◌}
use Rattle.mw_rel.specs.Free.{is_free, numbered}
use Rattle.mw_rel.specs.Views.{job_of}
use Rattle.mw_replay.proofs.Settables.{chosen_more}
use Rattle.mw_pal.specs.Talk.{first_value}
use Rattle.mw_pal.proofs.start.first_values.Goals as goal

pub loop-number-preserved : goal.loop-number-preserved
loop-number-preserved c =
    let free = is_free (numbered (job_of c.args.job.now) 0) in
    c.in_ok-push_first.ensures
    ∙ rw c.loop-number.invariant
    (chosen_more (first_value (job_of c.args.job.now)) free c.loop-number.number (free c.loop-number.number) refl)
