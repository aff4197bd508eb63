use Rattle.std.proofs.Common.{List, ℕ, ◌++◌, ap, ◌∙◌}
use Rattle.mw_rel.specs.Views.{job_of}
use Rattle.mw_replay.specs.CounterPrinted.{counter_text, no_lines}
use Rattle.mw_replay.specs.CounterText.{counter_of}
use Rattle.mw_replay.proofs.ReadBack.{reads_back, reads_back_in_report}
use Rattle.mw_replay.proofs.printed.print_counter.Goals as goal

pub returns-clause-exact : goal.returns-clause-exact
returns-clause-exact c = c.in_ok-text.ensures ∙ ap (counter_text (job_of c.args.job.now)) c.counter.view_is

pub returns-clause-reads_back : goal.returns-clause-reads_back
returns-clause-reads_back c = λ labels short.
    let job = job_of c.args.job.now in
    ap (counter_of job labels) (c.in_ok-text.ensures ∙ ap (counter_text job) c.counter.view_is)
    ∙ reads_back job c.args.counter.now labels c.args.job.now.is_job c.parts.ensures.kept c.requires short

pub returns-clause-in_report : goal.returns-clause-in_report
returns-clause-in_report c = λ labels difference follows short.
    let job = job_of c.args.job.now in
    ap (λ (text : List ℕ). counter_of job labels (no_lines difference ++ text))
    (c.in_ok-text.ensures ∙ ap (counter_text job) c.counter.view_is)
    ∙ reads_back_in_report job c.args.counter.now labels difference c.args.job.now.is_job
    c.parts.ensures.kept c.requires
    short follows
