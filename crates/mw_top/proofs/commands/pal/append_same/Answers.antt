use Rattle.std.proofs.Common.{◌∙◌}
use Rattle.mw_rel.specs.Views.{job_of}
use Rattle.mw_top.proofs.Consoles.{same_behind}
use Rattle.mw_top.proofs.commands.pal.append_same.Goals as goal

pub returns : goal.returns
returns c = rw (← c.talk.view_is) (λ start its.
    (rw (
      c.in_ok-append_printed.ensures,
      c.deref.ensures.value,
      c.in_ok-append_comparison.ensures,
      c.in_ok-extend_from_slice.ensures.items,
    ) at (c.in_ok-append_start.ensures start its))
    ∙ same_behind c.args.report.now.items (job_of c.args.job.now) c.args.steps _ start)
