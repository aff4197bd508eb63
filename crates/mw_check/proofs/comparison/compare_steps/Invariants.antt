use Rattle.mw_rel.specs.Views.{job_of}
use Rattle.mw_replay.specs.Replay.{IsReached, IsReplay, next_start}
use Rattle.mw_check.specs.Made.{HasMade}
use Rattle.mw_check.proofs.comparison.compare_steps.Given as goal

-- so many steps were made, and they show no difference
abbrev pub invariant-loop-made : goal.invariant-loop-made
invariant-loop-made g l = record {
  stands : IsReplay (job_of l.job) l.replay;
  few : HasMade l.made l.replay;
  reached : IsReached (job_of l.job) (next_start (job_of l.job) l.fn.replay) l.made
      (next_start (job_of l.job) l.replay);
}
