use Rattle.mw_rel.specs.Views.{job_of}
use Rattle.mw_replay.specs.Replay.{next_start}
use Rattle.mw_check.proofs.comparison.compare.Goals as goal

pub returns : goal.returns
returns c =
    (next_start (job_of c.args.job.now) c.in_ok-replay.replay, c.in_ok-replay.ensures.start, c.compare_by.ensures)
