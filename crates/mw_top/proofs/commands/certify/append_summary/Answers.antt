use Rattle.std.proofs.Common.{◌∙◌}
use Rattle.std.proofs.lemmas.Result.{IfOk-weaker}
use Rattle.mw_rel.specs.Views.{job_of}
use Rattle.mw_top.proofs.Lines.{summary_behind}
use Rattle.mw_top.proofs.commands.certify.append_summary.Goals as goal

pub returns : goal.returns
returns c =
    let states = rw c.boundary.ensures at c.states_of.ensures in
    IfOk-weaker c.append_line.result _ _ (λ done last.
    (rw (
      c.in_ok-extend_from_slice.ensures.items,
      c.in_ok-append_count-2.ensures,
      c.in_ok-append_count.ensures,
      c.in_ok-append_boundary.ensures,
      states,
    ) at last)
    ∙ summary_behind c.args.report.now.items (job_of c.args.job.now) c.args.number c.args.summary) c.append_line.ensures
