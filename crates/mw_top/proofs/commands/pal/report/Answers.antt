use Rattle.std.proofs.lemmas.Result.{IfOk-weaker}
use Rattle.mw_top.proofs.commands.pal.report.Goals as goal

pub returns : goal.returns
returns c = rw (← c.given.view_is) (
    let talks = rw (c.as_slice.ensures, c.as_slice-2.ensures) at c.in_ok-talk.ensures.talk in
    IfOk-weaker c.told-outcome.result _ _ (λ outcome told. record {
      job_is = c.given.inside.labelled.job.is_job;
      fits = c.given.invariant.0;
      memory_is = c.given.invariant.1;
      talk = c.in_ok-talk.talk;
      talks = talks;
      counter_is = c.in_ok-talk.ensures.counts;
      told = told talks.start talks.is_start;
    }) c.told-outcome.ensures)
